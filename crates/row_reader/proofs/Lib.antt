pub mod RowReadLaws
