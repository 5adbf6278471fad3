-- Each pair that is taken is coded, or stays, or is two choices by one condition, or is no joint pair.
use Rattle.std.proofs.Common.{◌≡◌, ◌∙◌, ◌++◌, ◌∷◌, [], sym, subst, true, false, List}
use Rattle.std.specs.HashSet.{keys}
use Rattle.cdc_model.specs.Tables.{ShowsNet}
use Rattle.cofactor.proofs.Places.{if_ok}
use Rattle.gray_pointer.specs.contracts.shapes.BothPartialEq.TheImpl as equality
use Rattle.gray_pointer.specs.declared.shapes.Both.{Both}
use Rattle.gray_pointer.specs.Shapes.{AreJointSoFar, AreBranches, IsRegisterIn}
use Rattle.gray_pointer.specs.Words.{HasWord, IsPlain}
use Rattle.gray_pointer.specs.Worklists.{Takes}
use Rattle.gray_pointer.proofs.Counts.{same_id}
use Rattle.gray_pointer.proofs.Joints.{begin_pair, same_pair, taken_words, pair_stays, pair_coded, pair_branches, not_joint, no_joint, all_joint}
use Rattle.gray_pointer.proofs.shapes.are_joint.Goals as goal
use Rattle.gray_pointer.proofs.shapes.are_joint.Goals.{In-Some}

pub loop-init : goal.loop-init
loop-init c = λ plain shown one two same.
    let g = c.args.net.now.graph in
    let w = c.args.count.now.width in
    let start : Both = record { count = c.args.count.now.next; gray = c.args.gray.now.next } in
    begin_pair g c.args.count.now.sig c.args.gray.now.sig w start equality.ghosts.eq same_pair (keys c.new-counts.result.met) c.new-counts.result.left.items
    (keys c.new-pairs.result.met) c.new-pairs.result.left.items (keys c.add.new.self.met) c.add.new.self.left.items c.new-counts.ensures.met c.new-counts.ensures.left
    c.new-pairs.ensures.met c.new-pairs.ensures.left (one.1, subst (HasWord g c.args.gray.now.next) same two.1) c.in_ok-add.ensures

-- the pair that is taken
taken : (c : In-Some) → c.loop.pairs.left.items ≡ c.take.new.self.left.items ++ c.in-Some.both ∷ []
taken c = subst (Takes c.loop.pairs.left.items c.take.new.self.left.items) c.in-Some.is c.take.ensures.taken

so_far : (c : In-Some) → IsPlain c.args.net.now.graph → ShowsNet c.args.net.now [] c.args.table.now → IsRegisterIn c.args.net.now.graph c.args.count.now
    → IsRegisterIn c.args.net.now.graph c.args.gray.now → c.args.gray.now.width ≡ c.args.count.now.width
    → AreJointSoFar c.args.net.now.graph c.args.count.now.sig c.args.gray.now.sig c.args.count.now.width (record { count = c.args.count.now.next; gray = c.args.gray.now.next })
    (keys c.loop.counts.met) c.loop.counts.left.items (keys c.take.new.self.met) c.loop.pairs.left.items
so_far c plain shown one two same =
    let start : Both = record { count = c.args.count.now.next; gray = c.args.gray.now.next } in
    subst (λ (m : List Both). AreJointSoFar c.args.net.now.graph c.args.count.now.sig c.args.gray.now.sig c.args.count.now.width start (keys c.loop.counts.met) c.loop.counts.left.items m c.loop.pairs.left.items)
    (sym c.take.ensures.met) (c.loop.invariant plain shown one two same)

pub returns-in_default : goal.returns-in_default
returns-in_default c = if_ok c.are_counts.result
    (λ t h plain shown one two same.
    let start : Both = record { count = c.args.count.now.next; gray = c.args.gray.now.next } in
    let gone = subst (Takes c.loop.pairs.left.items c.take.new.self.left.items) c.in_default.is c.take.ensures.taken in
    let so = subst (AreJointSoFar c.args.net.now.graph c.args.count.now.sig c.args.gray.now.sig c.args.count.now.width start (keys c.loop.counts.met) c.loop.counts.left.items (keys c.loop.pairs.met)) gone
    (c.loop.invariant plain shown one two same) in
    all_joint so t (h plain shown one.0 so.asked))
    c.are_counts.ensures

pub loop-preserved-then-is_gray_code : goal.loop-preserved-then-is_gray_code
loop-preserved-then-is_gray_code c = λ plain shown one two same.
    let at = (goal.at.loop-preserved-then-is_gray_code c).In-Some in
    let left_then = c.take.new.self.left.items in
    let x = c.in-Some.both in
    let so = so_far at plain shown one two same in
    let has = taken_words left_then x (taken at) so in
    pair_coded left_then x (taken at) so same_id c.in_ok-add-2.ensures ((c.is_gray_code.ensures plain shown has.1 has.0).0 c.if-is_gray_code.true)

pub loop-preserved-then-both_stay : goal.loop-preserved-then-both_stay
loop-preserved-then-both_stay c = λ plain shown one two same.
    let at = (goal.at.loop-preserved-then-both_stay c).In-Some in
    let left_then = c.take.new.self.left.items in
    let x = c.in-Some.both in
    let so = so_far at plain shown one two same in
    let h = (c.both_stay.ensures plain (taken_words left_then x (taken at) so) one.0 two.0 same).0 c.if-both_stay.true in
    pair_stays left_then x (taken at) so h.0 h.1

pub returns-in_default-branches_of : goal.returns-in_default-branches_of
returns-in_default-branches_of c = λ plain shown one two same.
    let at = (goal.at.returns-in_default-branches_of c).In-Some in
    let g = c.args.net.now.graph in
    let w = c.args.count.now.width in
    let left_then = c.take.new.self.left.items in
    let x = c.in-Some.both in
    let so = so_far at plain shown one two same in
    let has = taken_words left_then x (taken at) so in
    let code = c.is_gray_code.ensures plain shown has.1 has.0 in
    let stay = c.both_stay.ensures plain has one.0 two.0 same in
    not_joint left_then x (taken at) so (no_joint g c.args.count.now.sig c.args.gray.now.sig w x
    (λ h. let t : true ≡ false = sym (code.1 h) ∙ c.if-is_gray_code.false in cc) (λ h. let t : true ≡ false = sym (stay.1 h) ∙ c.if-both_stay.false in cc)
    (subst (AreBranches g x w) c.in_default-branches_of.is (c.branches_of.ensures plain has)))

pub loop-preserved : goal.loop-preserved
loop-preserved c = λ plain shown one two same.
    let at = (goal.at.loop-preserved c).In-Some in
    let left_then = c.take.new.self.left.items in
    let x = c.in-Some.both in
    let so = so_far at plain shown one two same in
    let has = taken_words left_then x (taken at) so in
    let code = c.is_gray_code.ensures plain shown has.1 has.0 in
    let stay = c.both_stay.ensures plain has one.0 two.0 same in
    pair_branches left_then x (taken at) so same_pair has.0.1
    (λ h. let t : true ≡ false = sym (code.1 h) ∙ c.if-is_gray_code.false in cc) (λ h. let t : true ≡ false = sym (stay.1 h) ∙ c.if-both_stay.false in cc)
    c.in-Some-branches_of.branches (subst (AreBranches c.args.net.now.graph x c.args.count.now.width) c.in-Some-branches_of.is (c.branches_of.ensures plain has)) c.in_ok-add-3.ensures c.in_ok-add-4.ensures
