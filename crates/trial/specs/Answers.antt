-- What a case of the cipher is answered.
use Rattle.std.specs.Prelude.{◌≡◌, ℕ, ◌≤◌, List, ◌++◌, take, Some, Ok, codes, decimal}
use Rattle.bits.specs.declared.refusal.Fault.{Fault}
use Rattle.bits.specs.Refusals.{number_of}
use Rattle.bits.specs.Gf2.{value, words_of}
use Rattle.cipher.specs.LowMC.{decrypt, encrypt}
use Rattle.cipher.specs.Parameters.{block_words_of, key_words_of, prepared_words_of}
use Rattle.cipher.specs.Sets.{Each, LawfulSet, Set, prepared}
use Rattle.cipher.specs.Laws.{Invertible}
use Rattle.cipher.specs.Blocks.{block_checks}
use Rattle.files.specs.Format.{file_of}

-- the file is that of a lawful set, under which the block is encrypted and decrypted; of the key and the block the words count that the set's have
pub record Answered (file key block there back : List ℕ) : Type 0 where
  pub set : Set
  pub lawful : LawfulSet set
  pub laid_out : file_of set ≡ file
  pub encrypted : there
      ≡ words_of (block_words_of set.params) (encrypt set (value (take (key_words_of set.params) key)) (value (take (block_words_of set.params) block)))
  pub decrypted : back
      ≡ words_of (block_words_of set.params) (decrypt set (value (take (key_words_of set.params) key)) (value (take (block_words_of set.params) block)))

-- the file is that of a lawful set for which there is room and whose layers can be inverted, and neither the key nor the block has a stray bit
pub record Answerable (file key block : List ℕ) : Type 0 where
  pub set : Set
  pub lawful : LawfulSet set
  pub laid_out : file_of set ≡ file
  pub room : prepared_words_of set.params ≤ 8192
  pub invertible : Each Invertible set.layers
  pub fitting : block_checks (Some (set.params, prepared set)) (take (key_words_of set.params) key) (take (block_words_of set.params) block) 8 ≡ Ok tt

-- a refusal as it is shown: NO, its number and its place
abbrev pub refused_line : Fault → List ℕ
refused_line e = codes "NO " ++ (decimal (number_of e.refusal) ++ (codes " " ++ decimal e.place))
