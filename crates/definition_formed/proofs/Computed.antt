pub mod FormedRows
