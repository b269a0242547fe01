-- `Digits`: the library's bytes of a number are its digits to the base 256, and a part of a slice that is written is pasted.
pub mod Digits
