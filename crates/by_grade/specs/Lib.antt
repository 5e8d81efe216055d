pub mod Column
