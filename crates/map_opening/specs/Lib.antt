pub mod Flat
pub mod Keyed
pub mod Laying
pub mod Opened
pub mod Common
