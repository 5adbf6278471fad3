-- The test of whether a Gray register is listed.
use Rattle.std.proofs.Common.{◌≡◌, sym, subst, rules, Bool, true, List, Contains}
use Rattle.std.specs.Cmp.Rules.{comparing}
use Rattle.std.specs.List.{list_any}
use Rattle.std.proofs.lemmas.List.Folds.{Any-from_list_any, list_any-from_Any}
use Rattle.cdc_model.specs.contracts.scheme.GrayRegPartialEq.TheImpl as equality
use Rattle.cdc_model.specs.declared.scheme.GrayReg.{GrayReg}
use Rattle.cdc_model.specs.Ordered.{IsAll, IsAscending}
use Rattle.cdc_model.specs.Verdict.{gray_key}

pub is_listed : List GrayReg → GrayReg → Bool
is_listed list g = list_any (equality.ghosts.eq g) list

equal_is : (a b : GrayReg) → equality.ghosts.eq a b ≡ true → a ≡ b
equal_is a b h = search rules

itself : (a : GrayReg) → equality.ghosts.eq a a ≡ true
itself a = search (comparing, rules)

pub listed : (list : List GrayReg) (g : GrayReg) → is_listed list g ≡ true → Contains list g
unfolding is_listed
listed list g h = let (k, a, l, at, p) = Any-from_list_any (equality.ghosts.eq g) list h in subst (Contains list) (sym (equal_is g a p)) (k, l, at)

-- exactly those that are listed pass
pub all_listed : (list : List GrayReg) → IsAscending gray_key list → IsAll (λ g. is_listed list g ≡ true) gray_key list
unfolding is_listed
all_listed list up = record {
  all = λ g h. listed list g h;
  only = λ g i. list_any-from_Any (equality.ghosts.eq g) list (i.0, g, i.1, i.2, itself g);
  ordered = up;
}
