-- Eight bytes as a word.
use Rattle.std.specs.Prelude.{ℕ, ◌+◌, ◌*◌, List, slice_index}

-- the eight bytes from a place on, lowest first; a byte that is not there counts as 0
abbrev pub eight_bytes : List ℕ → ℕ → ℕ
eight_bytes bs o =
    slice_index bs o + slice_index bs (o + 1) * 256 + slice_index bs (o + 2) * 65536 + slice_index bs (o + 3) * 16777216 + slice_index bs (o + 4) * 4294967296
    + slice_index bs (o + 5) * 1099511627776
    + slice_index bs (o + 6) * 281474976710656
    + slice_index bs (o + 7) * 72057594037927936
