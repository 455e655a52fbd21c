-- The sample file, computed from the definitions: the bytes that its set is laid out as, and the set that they are read back as.
use Rattle.std.specs.Prelude.{◌≡◌, ℕ, List, [], ◌∷◌, take, Ok, Err}
use Rattle.bits.specs.declared.refusal.Refusal.TheVariants.{Truncated}
use Rattle.bits.specs.declared.refusal.Layer.TheVariants.{File}
use Rattle.bits.specs.Refusals.{fault_at}
use Rattle.cipher.specs.Laws.{sample}
use Rattle.cipher.specs.Parameters.{params}
use Rattle.cipher.specs.Sets.{LawfulSet, prepared}
use Rattle.files.specs.Format.{file_of, set_of}
use Rattle.files.specs.Reading.{passed}

abbrev pub sample_file : List ℕ
sample_file =
    80 ∷ 82 ∷ 0 ∷ 3 ∷ 0 ∷ 3 ∷ 1 ∷ 1 ∷ 76 ∷ 77 ∷ 1 ∷ 2 ∷ 4 ∷ 1 ∷ 82 ∷ 67 ∷ 1 ∷ 1 ∷ 75 ∷ 77 ∷ 0 ∷ 1 ∷ 2 ∷ 4 ∷ 75 ∷ 77 ∷ 1 ∷ 1 ∷ 2 ∷ 4 ∷ 69 ∷ 78 ∷ []

pub record SampleStands : Type 0 where
  pub lawful : LawfulSet sample
  pub layout : file_of sample ≡ sample_file
  pub back : set_of (params 3 3 1 1) sample_file ≡ sample
  pub passes : passed sample_file 13 4 ≡ Ok (params 3 3 1 1)
  pub cut : passed (take 31 sample_file) 13 4 ≡ Err (fault_at Truncated File 31)
  pub words : prepared sample ≡ 2 ∷ 4 ∷ 1 ∷ 1 ∷ 1 ∷ 2 ∷ 4 ∷ 1 ∷ 2 ∷ 4 ∷ 4 ∷ 1 ∷ 2 ∷ []
