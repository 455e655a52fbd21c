use Rattle.std.proofs.Common.{rules, ◌≡◌, ℕ, ◌<◌, List, MatchOption, None, Option, length, arith, ◌∙◌}
use borrow.Author.Tests.{tests}
use Rattle.std.specs.List.{AllWithin, HoldsAt}
use Rattle.std.proofs.lemmas.Iterator.{IsFirst-from_position, YieldsList-from_slice}
use Rattle.bits.specs.Gf2.{Words, value}
use Rattle.bits.proofs.Vectors.{value_cleared}
use Rattle.bits.proofs.Lowest.{lowest_found, lowest_least, lowest_none, lowest_some}
use Rattle.bits.proofs.words.lowest_one.Goals as goal
use Rattle.bits.proofs.words.lowest_one.Goals.{After-position}

abbrev First : ℕ → Type 0
First x = 0 < x

abbrev Zero : ℕ → Type 0
Zero x = x ≡ 0

-- r is the place of the first word that has a one
abbrev FirstWord : List ℕ → Option ℕ → Type 0
FirstWord ws r = MatchOption r (AllWithin Zero ws 0 (length ws)) (λ k. (k < length ws) × HoldsAt First ws k × AllWithin Zero ws 0 k)

first : (c : After-position) → FirstWord c.args.row.now c.position.result
first c = IsFirst-from_position _ _ c.position.result First Zero c.position.ensures.ran (YieldsList-from_slice c.args.row.now cc) (λ x q k. search (rules, tests)) (λ x q k. search (rules, tests))

none : (ws : List ℕ) (r : Option ℕ) → r ≡ None → FirstWord ws r → value ws ≡ 0
none ws r e p =
    let z = rw e at p in
    value_cleared ws (λ k h. z k 0 (omega arith) h)

pub returns-in_err-k-clause-value : goal.returns-in_err-k-clause-value
returns-in_err-k-clause-value c = c.from_residual.ensures ∙ lowest_none _ (none _ _ c.in_err-k.was (first (goal.at.returns-in_err-k-clause-value c).After-position))

pub returns-in_err-k-clause-lowest : goal.returns-in_err-k-clause-lowest
returns-in_err-k-clause-lowest c = rw c.from_residual.ensures (none _ _ c.in_err-k.was (first (goal.at.returns-in_err-k-clause-lowest c).After-position))

pub returns-clause-lowest : goal.returns-clause-lowest
returns-clause-lowest c =
    let row = c.args.row.now in
    let k = c.in_ok-k.k in
    let p = first (goal.at.returns-clause-lowest c).After-position in
    let z = rw c.in_ok-k.was at p in
    let words : Words row = λ i. omega (arith, c.type_inv.row i) in
    let f = lowest_found row k words (z.1 0) in
    (omega (arith, f.1, z.0), record { one = f.0; below = lowest_least row k words (λ m h. z.2 m 0 (omega arith) h) })

pub returns-clause-value : goal.returns-clause-value
returns-clause-value c = lowest_some _ _ (returns-clause-lowest c).1
