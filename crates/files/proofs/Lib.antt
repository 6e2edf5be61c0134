pub mod TableCheck
