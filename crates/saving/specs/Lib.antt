-- What saving lays down, and what it needs.
pub mod Laying
