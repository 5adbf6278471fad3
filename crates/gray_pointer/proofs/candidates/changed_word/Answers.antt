-- Each word that is taken is the register's own, or a choice whose branches are added, or the one looked for.
use Rattle.std.proofs.Common.{◌≡◌, ◌∙◌, ◌++◌, ◌∷◌, [], sym, subst, true, false, List}
use Rattle.std.specs.HashSet.{keys}
use Rattle.cell_graph.specs.contracts.cell.CellIdPartialEq.TheImpl as equality
use Rattle.cell_graph.specs.declared.cell.CellId.{CellId}
use Rattle.gray_pointer.specs.Shapes.{IsRegisterIn}
use Rattle.gray_pointer.specs.Taken.{AreTakenSoFar}
use Rattle.gray_pointer.specs.Words.{IsChoice, IsPlain}
use Rattle.gray_pointer.specs.Worklists.{Takes}
use Rattle.gray_pointer.proofs.Counts.{same_id}
use Rattle.gray_pointer.proofs.Taken.{begin, taken_met, own_taken, branches_taken, no_change}
use Rattle.gray_pointer.proofs.candidates.changed_word.Goals as goal
use Rattle.gray_pointer.proofs.candidates.changed_word.Goals.{In-Some}

pub loop-init : goal.loop-init
loop-init c = λ plain is.
    begin c.args.net.now.graph c.args.register.now equality.ghosts.eq same_id (keys c.new-words.result.met) c.new-words.result.left.items (keys c.add.new.self.met) c.add.new.self.left.items
    c.new-words.ensures.met c.new-words.ensures.left is.1 c.in_ok-add.ensures

-- the word that is taken
taken : (c : In-Some) → c.loop.words.left.items ≡ c.take.new.self.left.items ++ c.in-Some.word ∷ []
taken c = subst (Takes c.loop.words.left.items c.take.new.self.left.items) c.in-Some.is c.take.ensures.taken

so_far : (c : In-Some) → IsPlain c.args.net.now.graph → IsRegisterIn c.args.net.now.graph c.args.register.now
    → AreTakenSoFar c.args.net.now.graph c.args.register.now (keys c.take.new.self.met) c.loop.words.left.items
so_far c plain is = subst (λ (m : List CellId). AreTakenSoFar c.args.net.now.graph c.args.register.now m c.loop.words.left.items) (sym c.take.ensures.met) (c.loop.invariant plain is)

pub returns-in_default : goal.returns-in_default
returns-in_default c = λ plain is.
    let gone = subst (Takes c.loop.words.left.items c.take.new.self.left.items) c.in_default.is c.take.ensures.taken in
    no_change plain (subst (AreTakenSoFar c.args.net.now.graph c.args.register.now (keys c.loop.words.met)) gone (c.loop.invariant plain is))

pub loop-preserved-then-is_own : goal.loop-preserved-then-is_own
loop-preserved-then-is_own c = λ plain is.
    let at = (goal.at.loop-preserved-then-is_own c).In-Some in
    let left_then = c.take.new.self.left.items in
    let x = c.in-Some.word in
    let so = so_far at plain is in
    let has = so.words x (taken_met left_then x (taken at) so) in
    own_taken left_then x (taken at) so ((c.is_own.ensures plain has is.0).0 c.if-is_own.true)

pub returns-in_default-choice_of : goal.returns-in_default-choice_of
returns-in_default-choice_of c = λ plain is.
    let at = (goal.at.returns-in_default-choice_of c).In-Some in
    let left_then = c.take.new.self.left.items in
    let x = c.in-Some.word in
    let so = so_far at plain is in
    let met = taken_met left_then x (taken at) so in
    let has = so.words x met in (
      so.taken x met,
      has,
      (λ h. let t : true ≡ false = sym ((c.is_own.ensures plain has is.0).1 h) ∙ c.if-is_own.false in cc),
      subst (IsChoice c.args.net.now.graph x c.args.register.now.width) c.in_default-choice_of.is (c.choice_of.ensures plain has),
    )

pub loop-preserved : goal.loop-preserved
loop-preserved c = λ plain is.
    let at = (goal.at.loop-preserved c).In-Some in
    let left_then = c.take.new.self.left.items in
    let x = c.in-Some.word in
    let so = so_far at plain is in
    let has = so.words x (taken_met left_then x (taken at) so) in
    branches_taken left_then x (taken at) so same_id c.in-Some-choice_of.choice (subst (IsChoice c.args.net.now.graph x c.args.register.now.width) c.in-Some-choice_of.is (c.choice_of.ensures plain has))
    c.in_ok-add-2.ensures c.in_ok-add-3.ensures
