use Rattle.std.proofs.Common.{ℕ, ◌==◌, List, Contains, nat_eq, sym, subst, ap, ◌∙◌}
use Rattle.std.specs.List.{list_any}
use Rattle.std.proofs.lemmas.Map.Made.{is_some-lookup}
use Rattle.flat_form.proofs.MaskSets.{has-key}
use Rattle.flat_form.proofs.masks.Masks.signals.Goals as goal

pub returns-clause-listed : goal.returns-clause-listed
returns-clause-listed c = λ s i h. subst (λ (ks : List ℕ). Contains ks s) (sym (c.as_slice.ensures ∙ c.keys.ensures.rest)) (has-key c.args.self.now.by_signal.entries s i h)

pub returns-clause-exact : goal.returns-clause-exact
returns-clause-exact c = λ s. ap (list_any (λ (x : ℕ). s == x)) (c.as_slice.ensures ∙ c.keys.ensures.rest) ∙ sym (is_some-lookup (nat_eq s) c.args.self.now.by_signal.entries)
