-- `Items`: the call of an item, and the lines of a run. `Returned`: what running one answers. `ItemLaws`: what an item of each kind stands for. `RunLaws`: a run's lines, item by item.
-- `Worked`: document 01's run, and bad items.
pub mod Items
pub mod Returned
pub mod ItemLaws
pub mod RunLaws
pub mod Open
pub mod Worked
