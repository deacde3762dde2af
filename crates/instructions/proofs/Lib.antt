-- Laws of an instruction's answer.
pub mod Answered
