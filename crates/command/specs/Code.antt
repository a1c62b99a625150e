-- How the code runs the engines. The results of the file commands are defined without it.
pub mod Engines
