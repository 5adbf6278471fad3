use Rattle.std.proofs.Common.{◌≡◌, ◌∙◌, ap, ap₂, sym, refl, rules, arith, Bool, true, false, Option, None, Some, List, [], ◌∷◌, ◌++◌, cond, append-nil}
use Rattle.fifo_scheme.specs.declared.finder.Way.{Way}
use Rattle.fifo_scheme.specs.Candidates.{is_code_word, listed, way_of}
use Rattle.fifo_scheme.proofs.Items.{none_of}
use Rattle.fifo_scheme.proofs.Ways.{way_added, ways_by}
use Rattle.fifo_scheme.proofs.finder.ways.Goals as goal
use Rattle.fifo_scheme.proofs.finder.ways.Goals.{then-contains+in-Some+in_ok-push, then-contains+in_default, else-contains}

pub loop-sync-preserved : goal.loop-sync-preserved
loop-sync-preserved c =
    let domains = c.args.domains.now in
    let grays = c.args.grays.now in
    let s = c.sync-item.result in
    let old = c.loop-sync.ways in
    let new = c.if-contains.ways in
    let told : is_code_word grays s.from.sig ≡ c.contains.result = sym (c.contains.ensures ∙ c.in_ok-codes.ensures s.from.sig) in
    let by = λ (t : Bool) (o : Option Way) (code : is_code_word grays s.from.sig ≡ t) (is : way_of domains s ≡ o).
    ap₂ (λ (b : Bool) (p : Option Way). cond b (listed p) []) code is in
    let added : new ≡ old ++ ways_by domains grays s = elim c.if-contains.branch [
      | then-contains+in-Some+in_ok-push w ↦
          let pushed : new ≡ old ++ w.in-Some.way ∷ [] = search rules in
          pushed ∙ ap (λ (ws : List Way). old ++ ws) (sym (by true (Some w.in-Some.way) (told ∙ w.if-contains.true) (sym w.way_of.ensures ∙ w.in-Some.is)))
      | then-contains+in_default w ↦
          w.ways-is ∙ sym (append-nil old) ∙ ap (λ (ws : List Way). old ++ ws) (sym (by true None (told ∙ w.if-contains.true)
          (none_of (way_of domains s) (λ x e. w.in_default.not-Some x (w.way_of.ensures ∙ e)))))
      | else-contains w ↦
          w.ways-is ∙ sym (append-nil old) ∙ ap (λ (ws : List Way). old ++ ws) (sym (by false (way_of domains s) (told ∙ w.if-contains.false) refl))
    ] in
    way_added domains grays c.args.syncs.now c.loop-sync.sync-index s old new (omega arith) c.sync-item.is c.loop-sync.invariant added
