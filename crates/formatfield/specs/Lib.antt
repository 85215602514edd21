pub mod FormatField
