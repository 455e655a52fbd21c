use Rattle.std.proofs.Common.{◌≡◌, map, length, ◌∙◌, ap, ap₂, arith}
use Rattle.bits.specs.Gf2.{flat, rows}
use Rattle.bits.specs.Matrices.{rows_in}
use Rattle.batches.specs.Lanes.{columns}
use Rattle.bits.proofs.Vectors.{length_rows}
use Rattle.cipher.specs.Directions.{along}
use Rattle.cipher.specs.Instances.{set_in}
use Rattle.cipher.specs.Parameters.{block_words_of, key_words_of}
use Rattle.batches.proofs.Admitted.{all_lanes, loaded}
use Rattle.batches.proofs.batch.run_cells.Goals as goal

pub returns-clause-blocks : goal.returns-clause-blocks
returns-clause-blocks g c =
    let m = g.E.Engine.means in
    let p = c.args.opened.set.params in
    let count = c.args.count in
    let bs = rows (block_words_of p) count c.args.blocks.now in
    let ks = rows (key_words_of p) count c.args.keys.now in
    let n : length c.split_at_mut-state.result.0.now ≡ p.n = omega arith in
    let k : length c.split_at_mut-sums.result.1.now ≡ p.k = omega arith in
    let blocks : rows_in c.new.result ≡ rows c.block_words-w.result count c.args.blocks.now =
    ap₂ (λ w n. rows w n c.new.result.words.now) c.new.ensures.shape.0 c.new.ensures.shape.1 ∙ ap (rows c.block_words-w.result count) c.new.ensures.words in
    let keys : rows_in c.new-2.result ≡ rows c.key_words.result count c.args.keys.now =
    ap₂ (λ w n. rows w n c.new-2.result.words.now) c.new-2.ensures.shape.0 c.new-2.ensures.shape.1 ∙ ap (rows c.key_words.result count) c.new-2.ensures.words in
    let f = along c.args.way (set_in p c.args.opened.set.words.now) in
    c.unload.ensures ∙ ap₂ (λ w l. flat w l) c.block_words-w.ensures
    (all_lanes f count ks bs (map m c.run_wires.new.state) (length_rows (key_words_of p) count c.args.keys.now) (length_rows (block_words_of p) count c.args.blocks.now)
    (λ j h. c.run_wires.ensures.lanes j (omega (arith, h, c.requires.lanes))
    ∙ ap₂ f (loaded (key_words_of p) p.k count _ _ j c.args.keys.now (map m c.load-2.new.cells) c.key_words.ensures k (c.load-2.ensures ∙ ap (columns (length c.split_at_mut-sums.result.1.now)) keys) c.requires.narrow.1)
    (loaded (block_words_of p) p.n count _ _ j c.args.blocks.now (map m c.load.new.cells) c.block_words-w.ensures n (c.load.ensures ∙ ap (columns (length c.split_at_mut-state.result.0.now)) blocks) c.requires.narrow.0)))
