-- The signals of either branch are chosen, all others stay.
use Rattle.std.proofs.Common.{◌≡◌, ℕ, Bool, true, false, ◌||◌, is_some, refl, sym, ap₂, ◌∙◌}
use Rattle.std.specs.Ordering.{nat_cmp}
use Rattle.std.specs.BTreeMap.{get}
use Rattle.driver_trees.specs.Presents.{present_of, is_target}
use Rattle.driver_trees.specs.Changes.{chosen}
use Rattle.driver_trees.proofs.Merges.{no_changes, merge_word}
use Rattle.driver_trees.proofs.Growing.{still-grows}
use Rattle.driver_trees.proofs.Stays.{word_grows, leaves_grow, condition_grows}
use Rattle.driver_trees.proofs.present.Present.merged.Goals as goal

either : {P : Type 0} (a b : Bool) → (a ≡ true → P) → (b ≡ true → P) → (a || b) ≡ true → P
either true b f g h = f refl
either false b f g h = g h

pub returns : goal.returns
returns c = record {
  merged = λ wid target a b t before ts us process condition yes other.
      let p = c.args.self.now in
      let first = c.in_ok-choose.ensures.chosen wid (λ x. false) t ts us process.drafts condition yes.leaves other.leaves (λ x e. yes.targets x (sym (yes.keys x) ∙ e))
      (no_changes wid c.args.drafts.now c.new-merged.result (chosen t ts us) c.new-merged.ensures.empty) in
      let g = first.0 in
      let second = c.in_ok-choose-2.ensures.chosen wid (λ x. false || is_some (get nat_cmp c.args.yes.now x)) t ts us g.drafts (condition_grows wid c.args.drafts.now c.choose.new.drafts g c.args.cond t condition)
      (leaves_grow wid c.args.drafts.now c.choose.new.drafts g p c.args.yes.now ts yes.leaves) (leaves_grow wid c.args.drafts.now c.choose.new.drafts g p c.args.other.now us other.leaves)
      (λ x e. other.targets x (sym (other.keys x) ∙ e)) first.1 in
      let all = still-grows wid c.args.drafts.now c.choose.new.drafts c.choose-2.new.drafts g second.0 in
      let keys : (x : ℕ) → is_some (get nat_cmp c.choose-2.new.merged x) ≡ (a x || b x) = λ x. second.1.keys x ∙ ap₂ (λ u v. u || v) (yes.keys x) (other.keys x) in (
        all,
        record {
          keys = keys;
          targets = λ x. either (a x) (b x) (yes.targets x) (other.targets x);
          leaves = λ x id e. merge_word wid c.choose-2.new.drafts (λ x. a x || b x) t ts us before x (get nat_cmp c.choose-2.new.merged x) (present_of p x) id (keys x) e (second.1.trees x)
              (λ i h. word_grows wid c.args.drafts.now c.choose-2.new.drafts all i x before (process.trees x i h));
        },
      );
}
