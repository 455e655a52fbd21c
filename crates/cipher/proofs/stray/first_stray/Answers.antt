use Rattle.std.proofs.Common.{◌≡◌, ◌-◌, sym, ◌∙◌, arith}
use Rattle.cipher.proofs.Strays.{stray_here, stray_more}
use Rattle.cipher.proofs.stray.first_stray.Goals as goal

pub returns-then-strays : goal.returns-then-strays
returns-then-strays c = stray_here c.loop-i.i c.loop-i.left c.args.words.now _ (omega arith) (sym c.strays.ensures ∙ c.if-strays.true) c.loop-i.invariant

pub loop-i-preserved : goal.loop-i-preserved
loop-i-preserved c =
    let e : c.saturating_sub-left.result ≡ c.loop-i.left - 64 = omega arith in
    rw e (stray_more c.loop-i.i c.loop-i.left c.args.words.now _ (omega arith) (sym c.strays.ensures ∙ c.if-strays.false) c.loop-i.invariant)
