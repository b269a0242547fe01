-- `hash_words::wide_of` meets its contract: the four words are the four parts of the 32 bytes.
-- Assumes nothing.
use Rattle.hash_words.specs.WideLaws.{key-read}
use Rattle.hash_words.proofs.wide_of.Goals as goal

pub returns : goal.returns
returns c =
    key-read c.args.s.now c.args.at _ c.requires c.read_be64-first.ensures c.read_be64-second.ensures c.read_be64-third.ensures c.read_be64-fourth.ensures
