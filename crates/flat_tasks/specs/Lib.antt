pub mod FlatTasks
