use Rattle.std.proofs.Common.{sym, ◌∙◌}
use Rattle.drawing.proofs.Keeping.{layer_judged}
use Rattle.drawing.proofs.keep.InvertingKeep.keeps.Goals as goal

pub returns : goal.returns
returns c =
    let m = c.args.m in
    let is = c.is_ok.ensures.value in
    record {
      passes = is ∙ (layer_judged m.width m.height m.words.now _ _ c.args.self.now.inverse _ _ c.invert.result c.requires.takes c.invert.ensures).0;
      holds = λ t. (layer_judged m.width m.height m.words.now _ _ _ _ _ c.invert.result c.requires.takes c.invert.ensures).1 (sym is ∙ t);
    }
