-- Each word that is taken is an end, or a choice whose branches are added, or no count word.
use Rattle.std.proofs.Common.{◌≡◌, ◌∙◌, ◌++◌, ◌∷◌, [], sym, subst, inl, inr, true, false, List}
use Rattle.std.specs.HashSet.{keys}
use Rattle.cdc_model.specs.Tables.{ShowsNet}
use Rattle.cell_graph.specs.Cells.{signal_width}
use Rattle.cell_graph.specs.declared.cell.CellId.{CellId}
use Rattle.gray_pointer.specs.Shapes.{AreAsked, AreCountsSoFar}
use Rattle.gray_pointer.specs.Words.{IsChoice, IsPlain}
use Rattle.gray_pointer.specs.Worklists.{Takes}
use Rattle.gray_pointer.proofs.Counts.{settled, branched, all_count, not_all, own_count, plus_count, no_count, taken_word, same_id}
use Rattle.gray_pointer.proofs.shapes.are_counts.Goals as goal
use Rattle.gray_pointer.proofs.shapes.are_counts.Goals.{In-Some}

-- the word that is taken
taken : (c : In-Some) → c.loop.words.left.items ≡ c.take.new.self.left.items ++ c.in-Some.word ∷ []
taken c = subst (Takes c.loop.words.left.items c.take.new.self.left.items) c.in-Some.is c.take.ensures.taken

so_far : (c : In-Some) → IsPlain c.args.net.now.graph → ShowsNet c.args.net.now [] c.args.table.now → signal_width c.args.net.now.graph.signals c.args.register.now.sig ≡ c.args.register.now.width
    → AreAsked c.args.net.now.graph c.args.register.now.width (keys c.args.words.now.met) c.args.words.now.left.items
    → AreCountsSoFar c.args.net.now.graph c.args.register.now.sig c.args.register.now.width (keys c.args.words.now.met) (keys c.take.new.self.met) c.loop.words.left.items
so_far c plain shown wide asked =
    subst (λ (m : List CellId). AreCountsSoFar c.args.net.now.graph c.args.register.now.sig c.args.register.now.width (keys c.args.words.now.met) m c.loop.words.left.items)
    (sym c.take.ensures.met) (c.loop.invariant plain shown wide asked)

pub returns-in_default : goal.returns-in_default
returns-in_default c = λ plain shown wide asked.
    let gone = subst (Takes c.loop.words.left.items c.take.new.self.left.items) c.in_default.is c.take.ensures.taken in
    all_count (subst (AreCountsSoFar c.args.net.now.graph c.args.register.now.sig c.args.register.now.width (keys c.args.words.now.met) (keys c.loop.words.met)) gone (c.loop.invariant plain shown wide asked))

pub loop-preserved-then-is_own_or_plus : goal.loop-preserved-then-is_own_or_plus
loop-preserved-then-is_own_or_plus c = λ plain shown wide asked.
    let at = (goal.at.loop-preserved-then-is_own_or_plus c).In-Some in
    let sig = c.args.register.now.sig in
    let w = c.args.register.now.width in
    let left_then = c.take.new.self.left.items in
    let x = c.in-Some.word in
    let so = so_far at plain shown wide asked in
    settled left_then x (taken at) so
    (elim ((c.is_own_or_plus.ensures plain shown (taken_word left_then x (taken at) so) wide).0 c.if-is_own_or_plus.true) [
      | inl h ↦ own_count sig w _ h
      | inr h ↦ plus_count sig w _ h
    ])

pub returns-in_default-choice_of : goal.returns-in_default-choice_of
returns-in_default-choice_of c = λ plain shown wide asked.
    let at = (goal.at.returns-in_default-choice_of c).In-Some in
    let g = c.args.net.now.graph in
    let w = c.args.register.now.width in
    let left_then = c.take.new.self.left.items in
    let x = c.in-Some.word in
    let so = so_far at plain shown wide asked in
    let has = taken_word left_then x (taken at) so in
    let iff = c.is_own_or_plus.ensures plain shown has wide in
    not_all left_then x (taken at) so
    (no_count g c.args.register.now.sig w x
    (λ h. let t : true ≡ false = sym (iff.1 (inl h)) ∙ c.if-is_own_or_plus.false in cc) (λ h. let t : true ≡ false = sym (iff.1 (inr h)) ∙ c.if-is_own_or_plus.false in cc)
    (subst (IsChoice g x w) c.in_default-choice_of.is (c.choice_of.ensures plain has)))

pub loop-preserved : goal.loop-preserved
loop-preserved c = λ plain shown wide asked.
    let at = (goal.at.loop-preserved c).In-Some in
    let left_then = c.take.new.self.left.items in
    let x = c.in-Some.word in
    let so = so_far at plain shown wide asked in
    let has = taken_word left_then x (taken at) so in
    let iff = c.is_own_or_plus.ensures plain shown has wide in
    branched left_then x (taken at) so same_id has.1
    (λ h. let t : true ≡ false = sym (iff.1 (inl h)) ∙ c.if-is_own_or_plus.false in cc) (λ h. let t : true ≡ false = sym (iff.1 (inr h)) ∙ c.if-is_own_or_plus.false in cc)
    c.in-Some-choice_of.choice (subst (IsChoice c.args.net.now.graph x c.args.register.now.width) c.in-Some-choice_of.is (c.choice_of.ensures plain has)) c.in_ok-add.ensures c.in_ok-add-2.ensures
