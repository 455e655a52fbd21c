-- Which files pass: those of lawful sets and no others, and each is read back as the set that it was written from.
use Rattle.std.proofs.Common.{◌≡◌, ℕ, zero, suc, ◌+◌, ◌*◌, ◌/◌, ◌%◌, ◌<◌, ◌≤◌, Bool, true, false, cond, not, ◌&&◌, eqb, ltb, leb, List, [], ◌∷◌, ◌++◌, length, get_or, drop, Ok, Err, Result, sym, refl, ap, ◌∙◌, subst, ap₂, arith}
use Rattle.std.proofs.lemmas.List.{drop_at, drop-drop, drop_more, length-drop}
use Rattle.std.proofs.lemmas.Bool.{and_from, and_parts, eq-eqb, eqb-true, le-leb, le-ltb, leb-true, ltb-false, not-false}
use Rattle.bits.specs.declared.refusal.Refusal.TheVariants.{ParameterOutOfRange, Truncated, WrongMark}
use Rattle.bits.specs.declared.refusal.Layer.TheVariants.{File, Set as SetLayer}
use Rattle.bits.specs.declared.refusal.Fault.{Fault}
use Rattle.bits.specs.Refusals.{fault_at, first_of, then}
use Rattle.bits.specs.Gf2.{Below}
use Rattle.cipher.specs.declared.params.Params.{Params}
use Rattle.cipher.specs.Parameters.{Lawful, lawful, limits, params}
use Rattle.cipher.specs.Sets.{Each, LawfulSet, Matrix, Set, joined}
use Rattle.files.specs.declared.reader.Mark.TheVariants.{Header, Layer, Constant, Key, End}
use Rattle.files.specs.Format.{byte_width_of, constants_at, file_of, first, header_of, keys_at, matrices_of, records_of, record_size, second, set_of, single}
use Rattle.files.specs.Faults.{Slot, constants_due, end_slots, judged, keys_due, layers_due, seen, size_of}
use Rattle.files.specs.Steps.{params_at}
use Rattle.files.specs.Reading.{header, judged_all}
use Rattle.files.proofs.Pieces.{Bytes}
use Rattle.files.proofs.Meets.{Meets, meets_seen, meets_size, seen_meets, series_back, series_meets, series_read, series_size, test_ok, width_holds}

-- ---- the limits

pub lawful_is : (p : Params) → lawful p ≡ true → Lawful p
lawful_is p h =
    let m : Bool = leb (3 * p.m) p.n && (leb 1 p.r && leb p.r 255) in
    let k : Bool = leb 1 p.k && (leb p.k 256 && (leb 1 p.m && m)) in
    let a = and_parts (leb 3 p.n) (leb p.n 256 && k) h in
    let b = and_parts (leb p.n 256) k a.1 in
    let c = and_parts (leb 1 p.k) (leb p.k 256 && (leb 1 p.m && m)) b.1 in
    let d = and_parts (leb p.k 256) (leb 1 p.m && m) c.1 in
    let e = and_parts (leb 1 p.m) m d.1 in
    let f = and_parts (leb (3 * p.m) p.n) (leb 1 p.r && leb p.r 255) e.1 in
    let g = and_parts (leb 1 p.r) (leb p.r 255) f.1 in
    record {
      n_least = leb-true 3 p.n a.0;
      n_most = leb-true p.n 256 b.0;
      k_least = leb-true 1 p.k c.0;
      k_most = leb-true p.k 256 d.0;
      m_least = leb-true 1 p.m e.0;
      m_most = leb-true (3 * p.m) p.n f.0;
      r_least = leb-true 1 p.r g.0;
      r_most = leb-true p.r 255 g.1;
    }

pub is_lawful : (p : Params) → Lawful p → lawful p ≡ true
is_lawful p h =
    both (le-leb 3 p.n h.n_least) (both (le-leb p.n 256 h.n_most)
    (both (le-leb 1 p.k h.k_least) (both (le-leb p.k 256 h.k_most)
    (both (le-leb 1 p.m h.m_least) (both (le-leb (3 * p.m) p.n h.m_most)
    (both (le-leb 1 p.r h.r_least) (le-leb p.r 255 h.r_most)))))))
  where
    both : {x y : Bool} → x ≡ true → y ≡ true → (x && y) ≡ true
    both {x} {y} a b = and_from x y a b

-- ---- checks in their order

-- a check that did not refuse
pub check_ok : (t : Bool) (e : Fault) (r : Result Unit Fault) → cond t (Err e) r ≡ Ok tt → (t ≡ false) × (r ≡ Ok tt)
check_ok true e r h =
    let z : ◌≡◌ {A = ℕ} 0 1 = cc in
    absurd (omega arith)
check_ok false e r h = (refl, h)

-- what comes after something that was not refused
pub then_ok : {A B : Type 0} (r : Result A Fault) (f : A → Result B Fault) (b : B) → then r f ≡ Ok b → (a : A) × (r ≡ Ok a) × (f a ≡ Ok b)
then_ok (Ok a) f b h = (a, refl, h)
then_ok (Err e) f b h =
    let z : ◌≡◌ {A = ℕ} 0 1 = cc in
    absurd (omega arith)

-- ---- the header

pub record Headed (file : List ℕ) (p : Params) : Type 0 where
  pub whole : 8 ≤ length file
  pub one : get_or file 0 0 ≡ first Header
  pub two : get_or file 1 0 ≡ second Header
  pub is : params_at file 2 ≡ p
  pub within : Lawful p

pub header_is : (p : Params) (file : List ℕ) → header file ≡ Ok p → Headed file p
header_is p file h =
    let q : Params = params_at file 2 in
    let t : Bool = eqb (get_or file 0 0) (first Header) && eqb (get_or file 1 0) (second Header) in
    let long = fault_at Truncated File (length file) in
    let mark = fault_at WrongMark File 0 in
    let a = then_ok (first_of ((ltb (length file) 8, long) ∷ (not t, mark) ∷ [])) (λ _. then (limits q) (λ _. Ok q)) p h in
    let b = then_ok (limits q) (λ _. Ok q) p a.2 in
    let c = check_ok (ltb (length file) 8) long (first_of ((not t, mark) ∷ [])) a.1 in
    let d = check_ok (not t) mark (Ok tt) c.1 in
    let e = and_parts (eqb (get_or file 0 0) (first Header)) (eqb (get_or file 1 0) (second Header)) (not-false t d.0) in
    let same : q ≡ p = cc b.2 in
    record {
      whole = ltb-false (length file) 8 c.0;
      one = eqb-true (get_or file 0 0) (first Header) e.0;
      two = eqb-true (get_or file 1 0) (second Header) e.1;
      is = same;
      within = subst Lawful same (lawful_is q (test_ok (lawful q) (Ok tt) (fault_at ParameterOutOfRange SetLayer 0) b.1).0);
    }

pub header_lawful : (p : Params) (file : List ℕ) → header file ≡ Ok p → Lawful p × (p ≡ params_at file 2) × (8 ≤ length file)
header_lawful p file h =
    let a = header_is p file h in
    (a.within, sym a.is, a.whole)

pub is_header : (p : Params) (file : List ℕ) → Headed file p → header file ≡ Ok p
is_header p file h =
    let q : Params = params_at file 2 in
    let long : ltb (length file) 8 ≡ false = le-ltb (length file) 8 h.whole in
    let mark : (eqb (get_or file 0 0) (first Header) && eqb (get_or file 1 0) (second Header)) ≡ true =
    and_from (eqb (get_or file 0 0) (first Header)) (eqb (get_or file 1 0) (second Header)) (eq-eqb (get_or file 0 0) (first Header) h.one) (eq-eqb (get_or file 1 0) (second Header) h.two) in
    let law : lawful q ≡ true = is_lawful q (subst Lawful (sym h.is) h.within) in
    simp (long, mark, law) (ap (λ (x : Params). Ok x) h.is)

-- the first eight bytes are those of the parameters
eight : (file : List ℕ) → 8 ≤ length file
    → file ≡ get_or file 0 0 ∷ get_or file 1 0 ∷ get_or file 2 0 ∷ get_or file 3 0 ∷ get_or file 4 0 ∷ get_or file 5 0 ∷ get_or file 6 0 ∷ get_or file 7 0 ∷ drop 8 file
eight file h =
    more 0 (omega arith) ∙ on 0 (more 1 (omega arith) ∙ on 1 (more 2 (omega arith) ∙ on 2 (more 3 (omega arith) ∙ on 3
    (more 4 (omega arith) ∙ on 4 (more 5 (omega arith) ∙ on 5 (more 6 (omega arith) ∙ on 6 (more 7 (omega arith))))))))
  where
    more : (i : ℕ) → i < length file → drop i file ≡ get_or file i 0 ∷ drop (i + 1) file
    more i l = drop_more file i 0 l

    on : (i : ℕ) {xs ys : List ℕ} → xs ≡ ys → get_or file i 0 ∷ xs ≡ get_or file i 0 ∷ ys
    on i e = ap (λ (l : List ℕ). get_or file i 0 ∷ l) e

header_bytes : (p : Params) (file : List ℕ) → Bytes file → Headed file p → header_of p ++ drop 8 file ≡ file
header_bytes p file b h =
    let n : p.n ≡ get_or file 2 0 * 256 + get_or file 3 0 = ap (λ (q : Params). q.n) (sym h.is) in
    let k : p.k ≡ get_or file 4 0 * 256 + get_or file 5 0 = ap (λ (q : Params). q.k) (sym h.is) in
    let m : p.m ≡ get_or file 6 0 = ap (λ (q : Params). q.m) (sym h.is) in
    let r : p.r ≡ get_or file 7 0 = ap (λ (q : Params). q.r) (sym h.is) in
    let n₁ : p.n / 256 ≡ get_or file 2 0 = omega (arith, b 3) in
    let n₀ : p.n % 256 ≡ get_or file 3 0 = omega (arith, b 3) in
    let k₁ : p.k / 256 ≡ get_or file 4 0 = omega (arith, b 5) in
    let k₀ : p.k % 256 ≡ get_or file 5 0 = omega (arith, b 5) in
    cc (eight file h.whole, h.one, h.two)

-- ---- what is due after the header

pub judged_is : (file : List ℕ) (o : ℕ) (ss : List Slot) → judged file o ss ≡ Ok tt → (seen o ss (drop o file) ≡ Ok tt) × (length file ≡ o + size_of ss)
judged_is file o ss h =
    let size : ℕ = o + size_of ss in
    let short = fault_at Truncated File (length file) in
    let long = fault_at WrongMark File size in
    let a = then_ok (seen o ss (drop o file)) (λ _. first_of ((ltb (length file) size, short) ∷ (ltb size (length file), long) ∷ [])) tt h in
    let b = check_ok (ltb (length file) size) short (first_of ((ltb size (length file), long) ∷ [])) a.2 in
    let c = check_ok (ltb size (length file)) long (Ok tt) b.1 in
    (a.1, omega (arith, ltb-false (length file) size b.0, ltb-false size (length file) c.0))

pub is_judged : (file : List ℕ) (o : ℕ) (ss : List Slot) → seen o ss (drop o file) ≡ Ok tt → length file ≡ o + size_of ss → judged file o ss ≡ Ok tt
is_judged file o ss h l =
    let a : ltb (length file) (o + size_of ss) ≡ false = le-ltb (length file) (o + size_of ss) (omega arith) in
    let b : ltb (o + size_of ss) (length file) ≡ false = le-ltb (o + size_of ss) (length file) (omega arith) in
    simp (h, a, b)

-- ---- constants are matrices of one row

length_matrices : (c count j : ℕ) (bs : List ℕ) → length (matrices_of c count j bs) ≡ j
length_matrices c count zero bs = refl
length_matrices c count (suc j) bs = ap suc (length_matrices c count j (drop (record_size c count) bs))

single_joined : (bits : ℕ) (Ms : List (List ℕ)) → Each (Matrix 1 bits) Ms → single (joined Ms) ≡ Ms
single_joined bits [] h = refl
single_joined bits ([] ∷ Ms) h = absurd (omega (arith, h.0.size))
single_joined bits ((x ∷ []) ∷ Ms) h = ap (λ (l : List (List ℕ)). (x ∷ []) ∷ l) (single_joined bits Ms h.1)
single_joined bits ((x ∷ y ∷ M) ∷ Ms) h = absurd (omega (arith, h.0.size))

joined_matrix : (bits : ℕ) (Ms : List (List ℕ)) → Each (Matrix 1 bits) Ms → Matrix (length Ms) bits (joined Ms)
joined_matrix bits [] h = record { size = refl; narrow = tt }
joined_matrix bits ([] ∷ Ms) h = absurd (omega (arith, h.0.size))
joined_matrix bits ((x ∷ []) ∷ Ms) h =
    let ih = joined_matrix bits Ms h.1 in
    record { size = ap suc ih.size; narrow = (h.0.narrow.0, ih.narrow) }
joined_matrix bits ((x ∷ y ∷ M) ∷ Ms) h = absurd (omega (arith, h.0.size))

single_each : (bits : ℕ) (xs : List ℕ) → Below bits xs → Each (Matrix 1 bits) (single xs)
single_each bits [] h = tt
single_each bits (x ∷ xs) h = (record { size = refl; narrow = (h.0, tt) }, single_each bits xs h.1)

length_single : (xs : List ℕ) → length (single xs) ≡ length xs
length_single [] = refl
length_single (x ∷ xs) = ap suc (length_single xs)

joined_single : (xs : List ℕ) → joined (single xs) ≡ xs
joined_single [] = refl
joined_single (x ∷ xs) = ap (λ (l : List ℕ). x ∷ l) (joined_single xs)

-- ---- a file that passes is the file of a lawful set

end_is : (bs : List ℕ) → Meets end_slots bs → bs ≡ first End ∷ second End ∷ []
end_is [] m = absurd m
end_is (x ∷ []) m = absurd m
end_is (x ∷ y ∷ bs) m = cc (m.0, m.1, m.2)

pub file_is : (p : Params) (file : List ℕ) → Bytes file → header file ≡ Ok p → judged_all file p ≡ Ok tt → LawfulSet (set_of p file) × (file_of (set_of p file) ≡ file)
file_is p file b h j =
    let H : Headed file p = header_is p file h in
    let J = judged_is file 8 (layers_due p 1 p.r) j in
    let w : ℕ = byte_width_of p.n in
    let v : ℕ = byte_width_of p.k in
    let A : ℕ = p.r * record_size w p.n in
    let B : ℕ = p.r * record_size w 1 in
    let C : ℕ = (p.r + 1) * record_size v p.n in
    let size : length (drop 8 file) ≡ size_of (layers_due p 1 p.r) = length-drop 8 file ∙ omega (arith, J.1) in
    let l = series_read Layer p.n p.n 1 p.r (constants_due p 1 p.r) (drop 8 file) (seen_meets 8 (layers_due p 1 p.r) (drop 8 file) J.0 size) in
    let to_c : drop A (drop 8 file) ≡ drop (constants_at p) file = drop-drop A 8 file in
    let c = series_read Constant p.n 1 1 p.r (keys_due p 0 (p.r + 1)) (drop (constants_at p) file) (subst (Meets (constants_due p 1 p.r)) to_c l.2) in
    let toK : drop B (drop (constants_at p) file) ≡ drop (keys_at p) file = drop-drop B (constants_at p) file in
    let k = series_read Key p.k p.n 0 (p.r + 1) end_slots (drop (keys_at p) file) (subst (Meets (keys_due p 0 (p.r + 1))) toK c.2) in
    let Ls : List (List ℕ) = matrices_of w p.n p.r (drop 8 file) in
    let Cs : List (List ℕ) = matrices_of w 1 p.r (drop (constants_at p) file) in
    let Ks : List (List ℕ) = matrices_of v p.n (p.r + 1) (drop (keys_at p) file) in
    let atK : records_of Key v 0 Ks ++ first End ∷ second End ∷ [] ≡ drop (keys_at p) file =
    ap (λ (x : List ℕ). records_of Key v 0 Ks ++ x) (sym (end_is (drop C (drop (keys_at p) file)) k.2)) ∙ k.1 in
    let atC : records_of Constant w 1 (single (joined Cs)) ++ (records_of Key v 0 Ks ++ first End ∷ second End ∷ []) ≡ drop (constants_at p) file =
    ap₂ (λ (x : List (List ℕ)) (y : List ℕ). records_of Constant w 1 x ++ y) (single_joined p.n Cs c.0) (atK ∙ sym toK) ∙ c.1 in (
      record {
        limits = H.within;
        rounds = length_matrices w p.n p.r (drop 8 file);
        layers = l.0;
        constants = subst (λ (n : ℕ). Matrix n p.n (joined Cs)) (length_matrices w 1 p.r (drop (constants_at p) file)) (joined_matrix p.n Cs c.0);
        key_rounds = length_matrices v p.n (p.r + 1) (drop (keys_at p) file);
        keys = k.0;
      },
      ap (λ (x : List ℕ). header_of p ++ x) (ap (λ (x : List ℕ). records_of Layer w 1 Ls ++ x) (atC ∙ sym to_c) ∙ l.1) ∙ header_bytes p file b H,
    )

-- ---- the file of a lawful set passes, and is read back as that set

abbrev set_of_parts : Params → List (List ℕ) → List ℕ → List (List ℕ) → Set
set_of_parts p L C K = record { params = p; layers = L; constants = C; keys = K }

pub file_passes : (s : Set) → LawfulSet s → (header (file_of s) ≡ Ok s.params) × (judged_all (file_of s) s.params ≡ Ok tt) × (set_of s.params (file_of s) ≡ s)
file_passes s h =
    let p : Params = s.params in
    let w : ℕ = byte_width_of p.n in
    let v : ℕ = byte_width_of p.k in
    let A : ℕ = p.r * record_size w p.n in
    let B : ℕ = p.r * record_size w 1 in
    let end : List ℕ = first End ∷ second End ∷ [] in
    let RL : List ℕ = records_of Layer w 1 s.layers in
    let RC : List ℕ = records_of Constant w 1 (single s.constants) in
    let RK : List ℕ = records_of Key v 0 s.keys in
    let ones : Each (Matrix 1 p.n) (single s.constants) = single_each p.n s.constants h.constants.narrow in
    let count : length (single s.constants) ≡ p.r = length_single s.constants ∙ h.constants.size in
    let mK : Meets (keys_due p 0 (p.r + 1)) (RK ++ end) =
    subst (λ (n : ℕ). Meets (keys_due p 0 n) (RK ++ end)) h.key_rounds (series_meets Key p.k p.n 0 s.keys end_slots end h.keys (refl, refl, refl)) in
    let mC : Meets (constants_due p 1 p.r) (RC ++ (RK ++ end)) =
    subst (λ (n : ℕ). Meets (constants_due p 1 n) (RC ++ (RK ++ end))) count
    (series_meets Constant p.n 1 1 (single s.constants) (keys_due p 0 (p.r + 1)) (RK ++ end) ones mK) in
    let mL : Meets (layers_due p 1 p.r) (RL ++ (RC ++ (RK ++ end))) =
    subst (λ (n : ℕ). Meets (layers_due p 1 n) (RL ++ (RC ++ (RK ++ end)))) h.rounds
    (series_meets Layer p.n p.n 1 s.layers (constants_due p 1 p.r) (RC ++ (RK ++ end)) h.layers mC) in
    let lL : length RL ≡ A = series_size Layer w p.n p.n 1 s.layers h.layers ∙ ap (λ (n : ℕ). n * record_size w p.n) h.rounds in
    let lC : length RC ≡ B = series_size Constant w p.n 1 1 (single s.constants) ones ∙ ap (λ (n : ℕ). n * record_size w 1) count in
    let dC : drop (constants_at p) (file_of s) ≡ RC ++ (RK ++ end) = sym (drop-drop A 8 (file_of s)) ∙ drop_at RL (RC ++ (RK ++ end)) A lL in
    let dK : drop (keys_at p) (file_of s) ≡ RK ++ end =
    sym (drop-drop B (constants_at p) (file_of s)) ∙ ap (λ (x : List ℕ). drop B x) dC ∙ drop_at RC (RK ++ end) B lC in
    let eL : matrices_of w p.n p.r (RL ++ (RC ++ (RK ++ end))) ≡ s.layers =
    ap (λ (n : ℕ). matrices_of w p.n n (RL ++ (RC ++ (RK ++ end)))) (sym h.rounds)
    ∙ series_back Layer w p.n p.n 1 s.layers (RC ++ (RK ++ end)) (width_holds p.n) h.layers in
    let eC : joined (matrices_of w 1 p.r (drop (constants_at p) (file_of s))) ≡ s.constants =
    ap₂ (λ (n : ℕ) (x : List ℕ). joined (matrices_of w 1 n x)) (sym count) dC
    ∙ ap joined (series_back Constant w p.n 1 1 (single s.constants) (RK ++ end) (width_holds p.n) ones) ∙ joined_single s.constants in
    let eK : matrices_of v p.n (p.r + 1) (drop (keys_at p) (file_of s)) ≡ s.keys =
    ap₂ (λ (n : ℕ) (x : List ℕ). matrices_of v p.n n x) (sym h.key_rounds) dK
    ∙ series_back Key v p.k p.n 0 s.keys end (width_holds p.k) h.keys in
    let n : p.n / 256 * 256 + p.n % 256 ≡ p.n = omega arith in
    let k : p.k / 256 * 256 + p.k % 256 ≡ p.k = omega arith in (
      is_header p (file_of s) (record {
        whole = omega arith;
        one = refl;
        two = refl;
        is = ap₂ (λ (x y : ℕ). params x y p.m p.r) n k;
        within = h.limits;
      }),
      is_judged (file_of s) 8 (layers_due p 1 p.r) (meets_seen 8 (layers_due p 1 p.r) (RL ++ (RC ++ (RK ++ end))) mL)
          (omega (arith, meets_size (layers_due p 1 p.r) (RL ++ (RC ++ (RK ++ end))) mL)),
      ap₂ (λ (x : List (List ℕ)) (y : List ℕ). set_of_parts p x y (matrices_of v p.n (p.r + 1) (drop (keys_at p) (file_of s)))) eL eC ∙ ap (λ (x : List (List ℕ)). set_of_parts p s.layers s.constants x) eK,
    )
