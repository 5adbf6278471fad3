-- The bytes of words are ASCII.
use Rattle.std.proofs.Common.{◌≡◌, ℕ, ◌<◌, true, List, take, get_or, arith, subst, sym}
use Rattle.std.specs.Prelude.{All}
use Rattle.std.specs.List.{prefix_len}
use Rattle.std.proofs.lemmas.Bool.Decides.{nat_tests}
use Rattle.std.proofs.lemmas.List.{get_or-take}
use Rattle.std.proofs.lemmas.List.Folds.{length-prefix_len}
use Rattle.std.proofs.lemmas.List.Sums.{prefix_len_passes}
use Rattle.sdc_subset.specs.declared.bytes.Class.TheVariants.{Plain}
use Rattle.sdc_subset.specs.Bytes.{in_class}

plain-small : (b : ℕ) → in_class Plain b ≡ true → b < 128
plain-small b h = grind (arith, nat_tests)

-- a plain word
pub run-small : (text : List ℕ) → All (λ b. b < 128) (take (prefix_len (in_class Plain) text) text)
run-small text k d l =
    let n = length-prefix_len (in_class Plain) text in
    let within : k < prefix_len (in_class Plain) text = omega arith in
    subst (λ b. b < 128) (sym (get_or-take (prefix_len (in_class Plain) text) text k d within)) (plain-small (get_or text k d) (prefix_len_passes (in_class Plain) text k d within))
