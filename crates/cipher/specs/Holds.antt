-- What an instance holds.
use Rattle.cipher.specs.declared.instance.Instance.{Instance}
use Rattle.cipher.specs.Blocks.{Held}
use Rattle.cipher.specs.Held.{held_in}

abbrev pub held_by : Instance → Held
held_by i = held_in i.opened
