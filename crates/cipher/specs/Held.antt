-- The parameters and the words of a set that was opened.
use Rattle.std.specs.Prelude.{Some, None, Option}
use Rattle.cipher.specs.declared.opened.Opened.{Opened}
use Rattle.cipher.specs.Blocks.{Held}

abbrev pub held_in : Option Opened → Held
held_in None = None
held_in (Some o) = Some (o.set.params, o.set.words.now)
