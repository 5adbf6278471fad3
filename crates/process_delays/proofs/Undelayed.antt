-- Where no assignment has a delay, no name has two.
use Rattle.std.proofs.Common.{◌≡◌, Bool, true, false, cond, ◌||◌, List, [], ◌∷◌, Some, None, refl, sym, ap, ◌∙◌, true≢false}
use Rattle.std.specs.Option.{option_or}
use Rattle.std.specs.Str.{bytes_eq}
use Rattle.verilog_reading.specs.StmtTree.{StmtTree, null, set, when, either, switch, switch_else, block, StmtTrees, no_rows, and_rows, ArmTrees, no_arms, and_arms}
use Rattle.flat_unfolding.specs.Outcome.{Text}
use Rattle.flat_unfolding.specs.Mentions.{aimed_names}
use Rattle.flat_unfolding.specs.Delays.{Delays, none_yet, always, several, joined, differ, on_both, with_delay, assigned_with, Walked, walked, walked_all, walked_arms, first_clash}
use Rattle.process_delays.specs.Walks.{is_delayed, are_delayed, are_arms_delayed}

abbrev is_plain : Delays → Bool
is_plain none_yet = true
is_plain (always None) = true
is_plain (always (Some d)) = false
is_plain several = false

abbrev IsPlain : (Text → Delays) → Type 0
IsPlain f = (x : Text) → is_plain (f x) ≡ true

plain-joined : (v w : Delays) → is_plain v ≡ true → is_plain w ≡ true → is_plain (joined v w) ≡ true
plain-joined none_yet w p q = q
plain-joined (always None) none_yet p q = refl
plain-joined (always None) (always None) p q = refl
plain-joined (always None) (always (Some e)) p q = absurd (true≢false (sym q))
plain-joined (always None) several p q = absurd (true≢false (sym q))
plain-joined (always (Some d)) w p q = absurd (true≢false (sym p))
plain-joined several w p q = absurd (true≢false (sym p))

plain-differ : (w : Delays) → is_plain w ≡ true → differ None w ≡ false
plain-differ none_yet p = refl
plain-differ (always None) p = refl
plain-differ (always (Some d)) p = absurd (true≢false (sym p))
plain-differ several p = absurd (true≢false (sym p))

neither : (a b : Bool) → (a || b) ≡ false → (a ≡ false) × (b ≡ false)
neither true b h = absurd (true≢false h)
neither false b h = (refl, h)

record IsQuiet (w : Walked) : Type 0 where
  pub after : IsPlain w.after
  pub clash : w.clash ≡ None

both-plain : (f g : Text → Delays) → IsPlain f → IsPlain g → IsPlain (on_both f g)
both-plain f g p q x = plain-joined (f x) (g x) (p x) (q x)

both-quiet : (v w : Walked) → IsQuiet v → IsQuiet w → IsQuiet (record { after = on_both v.after w.after; clash = option_or v.clash w.clash })
both-quiet v w p q = record { after = both-plain v.after w.after p.after q.after; clash = ap (λ o. option_or o w.clash) p.clash ∙ q.clash }

with-plain : (f : Text → Delays) (x : Text) → IsPlain f → IsPlain (with_delay x None f)
with-plain f x p y = go (bytes_eq x y)
  where
    go : (b : Bool) → is_plain (cond b (joined (f y) (always None)) (f y)) ≡ true
    go true = plain-joined (f y) (always None) (p y) refl
    go false = p y

names-quiet : (f : Text → Delays) (xs : List Text) → IsPlain f → IsQuiet (assigned_with None f xs)
names-quiet f [] p = record { after = p; clash = refl }
names-quiet f (x ∷ xs) p =
    let rest = names-quiet (with_delay x None f) xs (with-plain f x p) in
    record { after = rest.after; clash = ap (λ b. cond b (Some x) (assigned_with None (with_delay x None f) xs).clash) (plain-differ (f x) (p x)) ∙ rest.clash }

mutual
  quiet : (f : Text → Delays) (t : StmtTree) → IsPlain f → is_delayed t ≡ false → IsQuiet (walked f t)
  quiet f null p h = record { after = p; clash = refl }
  quiet f (set true d t e) p h = record { after = p; clash = refl }
  quiet f (set false None t e) p h = names-quiet f (aimed_names t) p
  quiet f (set false (Some d) t e) p h = absurd (true≢false h)
  quiet f (when c s) p h = let a = quiet f s p h in record { after = both-plain (walked f s).after f a.after p; clash = a.clash }
  quiet f (either c s z) p h = let n = neither (is_delayed s) (is_delayed z) h in both-quiet (walked f s) (walked f z) (quiet f s p n.0) (quiet f z p n.1)
  quiet f (switch c rows) p h = let a = arms-quiet f rows p h in record { after = both-plain (walked_arms f rows).after f a.after p; clash = a.clash }
  quiet f (switch_else c rows d) p h =
      let n = neither (are_arms_delayed rows) (is_delayed d) h in both-quiet (walked_arms f rows) (walked f d) (arms-quiet f rows p n.0) (quiet f d p n.1)
  quiet f (block rows) p h = rows-quiet f rows p h

  rows-quiet : (f : Text → Delays) (ts : StmtTrees) → IsPlain f → are_delayed ts ≡ false → IsQuiet (walked_all f ts)
  rows-quiet f no_rows p h = record { after = p; clash = refl }
  rows-quiet f (and_rows s rest) p h =
      let n = neither (is_delayed s) (are_delayed rest) h in
      let a = quiet f s p n.0 in
      let b = rows-quiet (walked f s).after rest a.after n.1 in
      record { after = b.after; clash = ap (λ o. option_or o (walked_all (walked f s).after rest).clash) a.clash ∙ b.clash }

  arms-quiet : (f : Text → Delays) (ts : ArmTrees) → IsPlain f → are_arms_delayed ts ≡ false → IsQuiet (walked_arms f ts)
  arms-quiet f no_arms p h = record { after = λ x. refl; clash = refl }
  arms-quiet f (and_arms labels s rest) p h =
      let n = neither (is_delayed s) (are_arms_delayed rest) h in both-quiet (walked f s) (walked_arms f rest) (quiet f s p n.0) (arms-quiet f rest p n.1)

pub undelayed : (t : StmtTree) → is_delayed t ≡ false → first_clash t ≡ None
undelayed t h = (quiet (λ x. none_yet) t (λ x. refl) h).clash
