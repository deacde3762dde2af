-- What a turn of each loop does, and what the choices are; the counts; the answers by the questions.
pub mod Digits
pub mod Places
pub mod Laying
pub mod Counting
pub mod Asked
