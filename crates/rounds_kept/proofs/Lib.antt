pub mod Sound2
