pub mod Selftests
