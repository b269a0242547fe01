-- `RunLaws`: inserts and removes in turn. `BoundLaws`: inserts read from bytes.
pub mod RunLaws
pub mod BoundLaws
