pub mod Purge
