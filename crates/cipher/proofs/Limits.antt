-- The limits as a test, as facts and as an answer.
use Rattle.std.proofs.Common.{◌≡◌, ℕ, ◌*◌, Bool, true, false, cond, ◌&&◌, Ok, Err, Result, refl, arith, le-leb, leb-true}
use Rattle.bits.specs.declared.refusal.Fault.{Fault}
use Rattle.cipher.specs.declared.params.Params.{Params}
use Rattle.cipher.specs.Parameters.{Lawful, lawful, limits}

pub both : (a b : Bool) → (a && b) ≡ true → (a ≡ true) × (b ≡ true)
both true b e = (refl, e)
both false b e = absurd (let z : ◌≡◌ {A = ℕ} 0 1 = cc in omega arith)

pub lawful_facts : (p : Params) → lawful p ≡ true → Lawful p
lawful_facts p e =
    let a = both _ _ e in
    let b = both _ _ a.1 in
    let c = both _ _ b.1 in
    let d = both _ _ c.1 in
    let f = both _ _ d.1 in
    let g = both _ _ f.1 in
    let h = both _ _ g.1 in
    record {
      n_least = leb-true 3 p.n a.0;
      n_most = leb-true p.n 256 b.0;
      k_least = leb-true 1 p.k c.0;
      k_most = leb-true p.k 256 d.0;
      m_least = leb-true 1 p.m f.0;
      m_most = leb-true (3 * p.m) p.n g.0;
      r_least = leb-true 1 p.r h.0;
      r_most = leb-true p.r 255 h.1;
    }

pub facts_lawful : (p : Params) → Lawful p → lawful p ≡ true
facts_lawful p h =
    rw (
      le-leb 3 p.n h.n_least,
      le-leb p.n 256 h.n_most,
      le-leb 1 p.k h.k_least,
      le-leb p.k 256 h.k_most,
      le-leb 1 p.m h.m_least,
      le-leb (3 * p.m) p.n h.m_most,
      le-leb 1 p.r h.r_least,
      le-leb p.r 255 h.r_most,
    )

-- what a check that passed tells
pub limits_facts : (p : Params) → limits p ≡ Ok tt → Lawful p
limits_facts p e = lawful_facts p (go (lawful p) _ e)
  where
    go : (b : Bool) (f : Fault) → ◌≡◌ {A = Result Unit Fault} (cond b (Ok tt) (Err f)) (Ok tt) → b ≡ true
    go true f q = refl
    go false f q = absurd (let z : ◌≡◌ {A = ℕ} 0 1 = cc in omega arith)

pub facts_limits : (p : Params) → Lawful p → limits p ≡ Ok tt
facts_limits p h = rw (facts_lawful p h)
