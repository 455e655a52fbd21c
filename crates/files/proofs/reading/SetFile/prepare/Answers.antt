use Rattle.std.proofs.Common.{◌≡◌, ℕ, ◌+◌, ◌-◌, ◌*◌, List, ◌++◌, map, length, take, drop, sym, ap, ◌∙◌, ap₂, arith}
use Rattle.std.proofs.lemmas.List.{append_assoc, drop-drop, take_rest}
use Rattle.bits.specs.Gf2.{flat, inverse_of, width_of}
use Rattle.cipher.specs.declared.params.Params.{Params}
use Rattle.cipher.specs.Parameters.{prepared_words_of}
use Rattle.cipher.specs.Sets.{joined}
use Rattle.files.specs.Format.{byte_width_of, constants_at, matrices_of, record_size}
use Rattle.files.proofs.reading.SetFile.prepare.Goals as goal

-- so many records of the same bytes are the same words
section : (w c n r r' : ℕ) (xs ys : List ℕ) → r ≡ r' → xs ≡ ys → flat w (joined (matrices_of c n r xs)) ≡ flat w (joined (matrices_of c n r' ys))
section w c n r r' xs ys e h = ap₂ (λ k l. flat w (joined (matrices_of c n k l))) e h

-- what is left after k bytes more
further : (xs ys : List ℕ) (o k k' : ℕ) → xs ≡ drop o ys → k ≡ k' → take (length xs - k) (drop k xs) ≡ drop (o + k') ys
further xs ys o k k' e h = take_rest xs k ∙ ap₂ (λ i l. drop i l) h e ∙ drop-drop k' o ys

-- so are their inverses
inverses : (n n' r r' : ℕ) (xs ys : List ℕ) → n ≡ n' → r ≡ r' → xs ≡ ys
    → flat (width_of n) (joined (map inverse_of (matrices_of (byte_width_of n) n r xs))) ≡ flat (width_of n') (joined (map inverse_of (matrices_of (byte_width_of n') n' r' ys)))
inverses n n' r r' xs ys a b e = cc

-- the number of words
total : (p : Params) (r a b d e : ℕ) → r ≡ p.r → a ≡ p.n * width_of p.n → b ≡ 1 * width_of p.n → d ≡ p.n * width_of p.k → e ≡ p.n * width_of p.n
    → r * a + r * b + (r + 1) * d + r * e ≡ prepared_words_of p
total p r a b d e is ea eb ed ee =
    let one : b ≡ width_of p.n = omega arith in
    let fa : r * a ≡ p.r * (p.n * width_of p.n) = ap₂ (λ i j. i * j) is ea in
    let fb : r * b ≡ p.r * width_of p.n = ap₂ (λ i j. i * j) is one in
    let fd : (r + 1) * d ≡ (p.r + 1) * (p.n * width_of p.k) = ap₂ (λ i j. (i + 1) * j) is ed in
    let fe : r * e ≡ p.r * (p.n * width_of p.n) = ap₂ (λ i j. i * j) is ee in
    omega arith

-- the words past them
left : (ws xs ys zs : List ℕ) (a b d e t : ℕ) → xs ≡ drop a ws → ys ≡ drop b xs → zs ≡ drop d ys → a + b + d + e ≡ t → drop e zs ≡ drop t ws
left ws xs ys zs a b d e t ex ey ez h =
    ap (drop e) (ez ∙ ap (drop d) (ey ∙ ap (drop b) ex ∙ drop-drop b a ws) ∙ drop-drop d (a + b) ws) ∙ drop-drop e (a + b + d) ws ∙ ap (λ k. drop k ws) h

joins : (A B C D E A' B' C' D' E' : List ℕ) → A ≡ A' → B ≡ B' → C ≡ C' → D ≡ D' → E ≡ E' → A ++ (B ++ (C ++ (D ++ E))) ≡ (A' ++ (B' ++ (C' ++ D'))) ++ E'
joins A B C D E A' B' C' D' E' a b c d e =
    let same : A ++ (B ++ (C ++ (D ++ E))) ≡ A' ++ (B' ++ (C' ++ (D' ++ E'))) = cc in
    same ∙ sym (simp append_assoc)

pub returns : goal.returns
returns c =
    let p = c.args.self.now.params in
    let n = p.n in
    let r = c.from-r.result in
    let ws = c.args.words.now in
    let f = c.args.self.now.file.now in
    let w = width_of n in
    let v = width_of p.k in
    let is-r : r ≡ p.r = c.from-r.ensures in
    let ls = c.layers.result in
    let layers-at : take (length f - 8) (drop 8 f) ≡ drop 8 f = take_rest f 8 in
    let constants-at = further _ f 8 (r * c.record_size.result) (p.r * record_size (byte_width_of n) n) layers-at (ap₂ (λ i j. i * j) is-r c.record_size.ensures) in
    let keys-at = further _ f (constants_at p) (r * c.record_size-2.result) (p.r * record_size (byte_width_of n) 1) constants-at (ap₂ (λ i j. i * j) is-r c.record_size-2.ensures) in
    joins _ _ _ _ _ _ _ _ _ _
    (c.load_records.ensures ∙ section w (byte_width_of n) n r p.r _ _ is-r layers-at)
    (c.load_records-2.ensures ∙ section w (byte_width_of n) 1 r p.r _ _ is-r constants-at)
    (c.load_records-3.ensures ∙ section v (byte_width_of p.k) n (r + 1) (p.r + 1) _ _ (ap (λ k. k + 1) is-r) keys-at)
    (c.load_inverses.ensures ∙ inverses ls.n n ls.count p.r ls.bytes.now (drop 8 f) c.layers.ensures.form.0 c.layers.ensures.form.1 c.layers.ensures.bytes)
    (left ws c.split_at_mut-layer_words.result.1.now c.split_at_mut-constant_words.result.1.now c.split_at_mut-key_words.result.1.now
    (r * c.words.result) (r * c.words-2.result) ((r + 1) * c.words-3.result) (r * c.words-4.result) (prepared_words_of p)
    c.split_at_mut-layer_words.ensures.back c.split_at_mut-constant_words.ensures.back c.split_at_mut-key_words.ensures.back
    (total p r c.words.result c.words-2.result c.words-3.result c.words-4.result is-r c.words.ensures c.words-2.ensures c.words-3.ensures c.words-4.ensures))
