-- `Laid`: bytes laid over an output. `ByteLaws`: items as a record has them. `WriteLaws`: what each step leaves. `EncodeLaws`: what encoding answers at each test, and the record in parts.
pub mod Laid
pub mod ByteLaws
pub mod WriteLaws
pub mod EncodeLaws
