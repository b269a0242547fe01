-- `ItemCalls`: an item's call has arguments of their types. `OutputRoom`: in a run no output is ever too short.
pub mod ItemCalls
pub mod OutputRoom
