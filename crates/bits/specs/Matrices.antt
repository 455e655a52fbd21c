-- A matrix that is lent, seen as the list of its rows.
use Rattle.std.specs.Prelude.{ℕ, List}
use Rattle.bits.specs.Gf2.{rows}
use Rattle.bits.specs.declared.rows.Matrix.{Matrix}

abbrev pub rows_in : Matrix → List ℕ
rows_in m = rows m.width m.height m.words.now
