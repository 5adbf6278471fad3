-- A connection as an assignment.
use Rattle.std.proofs.Common.{◌≡◌, ◌<◌, ℕ, ◌≤◌, Bool, true, false, length, ◌&&◌, List, [], ◌∷◌, ◌++◌, Option, Some, None, refl, sym, ap, ap₂, subst, ◌∙◌, rules, Vec, Global}
use Rattle.std.specs.Prelude.{option_and_then, slice_get}
use Rattle.std.specs.Option.{option_map_or}
use Rattle.std.specs.List.{AllZip}
use Rattle.indexmap.specs.IndexMap.{IndexMap}
use Rattle.cdc_base.specs.declared.signal.ResetPin.{ResetPin}
use Rattle.flat_meaning.specs.Flat.{Whole}
use Rattle.flat_form.specs.declared.flat.FExpr.{FExpr}
use Rattle.flat_form.specs.declared.flat.FExpr.TheOpen.{FExpr-F}
use Rattle.flat_form.specs.declared.flat.FExpr.TheFolds.{fold-roll-FExpr}
use Rattle.flat_form.specs.declared.flat.FExpr.TheVariants as e
use Rattle.flat_form.specs.declared.flat.FTarget.{FTarget}
use Rattle.flat_form.specs.declared.flat.FTarget.TheOpen.{FTarget-F}
use Rattle.flat_form.specs.declared.flat.FTarget.TheFolds.{fold-roll-FTarget}
use Rattle.flat_form.specs.declared.flat.FTarget.TheVariants as t
use Rattle.flat_form.specs.declared.flat.FlatAssign.{FlatAssign}
use Rattle.flat_form.specs.View.{expr_of}
use Rattle.flat_form.specs.Sizes.{Kept}
use Rattle.flat_form.proofs.Folds.{target_of-Whole}
use Rattle.flat_unfolding.specs.Names as n
use Rattle.flat_unfolding.specs.Outcome.{Text}
use Rattle.flat_unfolding.specs.Names.{width_at, reset_at, bits_read, meaning_in}
use Rattle.flat_unfolding.specs.Instances.{Link, into, out_of, resolving_to, into_port, out_of_port, connect_one, connect_all}
use Rattle.flat_unfolding.specs.Design as u
use Rattle.flat_unfolding.specs.Design.{change_entry}
use Rattle.flat_unfolding.specs.Widths.{width_step, width_of, keeps_sizes, target_step, target_keeps_sizes}
use Rattle.flat_unfolding.proofs.Steps.{some_is}
use Rattle.flat_unfolding.proofs.Grown.{has_bits}
use Rattle.flat_names.specs.declared.scope.Look.{Look}
use Rattle.flat_names.specs.declared.design.Reset.{Reset}
use Rattle.flat_names.specs.declared.design.Entry.{Entry}
use Rattle.flat_names.specs.declared.design.Design.{Design}
use Rattle.flat_names.specs.Looks.{bits_of, Shows}
use Rattle.flat_names.specs.Designs.{ShowsDesign, IsReset}
use Rattle.flat_names.proofs.Looked.{width-is, level-is, bits-expr}
use Rattle.flat_process.proofs.Ended.{shows-assign}
use Rattle.flat_design.specs.declared.instance.End.TheVariants as ends
use Rattle.flat_design.specs.declared.instance.Connection.{Connection}
use Rattle.flat_design.specs.Visiting.{IsEnd, port_of, IsLinkOf, if_signal, connect_at, AreFitNames}
use Rattle.flat_design.proofs.Connected.{one-alike}

pub whole-keeps : (s : ℕ) → target_keeps_sizes (t.Whole s) ≡ true
whole-keeps s = ap target_keeps_sizes (sym (t.rolls-Whole s)) ∙ fold-roll-FTarget _ target_step (FTarget-F.Whole s)

read-keeps : (s at w : ℕ) → keeps_sizes (e.Read s at w) ≡ true
read-keeps s at w = ap (λ (k : Kept). k.right) (ap width_of (sym (e.rolls-Read s at w)) ∙ fold-roll-FExpr Kept width_step (FExpr-F.Read s at w))

pub number-keeps : (v w : ℕ) → keeps_sizes (e.Number v w) ≡ true
number-keeps v w = ap (λ (k : Kept). k.right) (ap width_of (sym (e.rolls-Number v w)) ∙ fold-roll-FExpr Kept width_step (FExpr-F.Number v w))

-- what a port reads as
bits-keep : (o : Option Reset) (s at w : ℕ) → keeps_sizes (bits_of o false s at w) ≡ true
bits-keep None s at w = read-keeps s at w
bits-keep (Some q) s at w = number-keeps _ w

pub port-reads : (k : Look) (l : n.Look) → Shows k l → k.active ≡ false → (s w : ℕ) (x : FExpr) → s < length l.entries → w ≡ option_map_or (λ (y : Entry). y.width) (slice_get k.entries.now s) 1
    → (1 ≤ w → x ≡ bits_of (option_and_then (λ (y : Entry). y.reset) (slice_get k.entries.now s)) k.active s 0 w) → (expr_of x ≡ n.whole_of l s) × (keeps_sizes x ≡ true)
port-reads k l h f s w x i j d =
    let o = option_and_then (λ (y : Entry). y.reset) (slice_get k.entries.now s) in
    let own : w ≡ width_at l.entries s = j ∙ width-is k l h s i in
    let is = d (subst (λ n. 1 ≤ n) (sym own) (has_bits l.entries s i)) in (
      ap expr_of is ∙ bits-expr o (reset_at l.entries s) k.active s 0 w (level-is k l h s) l refl (sym h.active) ∙ ap (n.bits_of l s 0) own,
      ap keeps_sizes is ∙ ap (λ a. keeps_sizes (bits_of o a s 0 w)) f ∙ bits-keep o s 0 w,
    )

module _ (pins : List ResetPin) (d : Design) (v : Vec FlatAssign Global) (s : ℕ) where
  -- a port that is driven
  pub drives-port : (o : u.Design) (link : Link) (x : FExpr) (q : Option Reset) → IsEnd pins (ends.Input x q) link → ((r : Option ResetPin) → IsReset pins q r → ShowsDesign pins d (record o { entries = change_entry (resolving_to r) s o.entries }))
      → v.items ≡ d.assigns.items ++ (record { target = t.Whole s; value = x }) ∷ [] → ShowsDesign pins (record d { assigns = v }) (connect_at o s link)
  drives-port o (into y w r) x q h k i = shows-assign pins d (record o { entries = change_entry (resolving_to r) s o.entries }) (k r h.2) v (record { target = t.Whole s; value = x }) (Whole s) w i
      record { target = λ z. target_of-Whole s; value = λ z. h.0; sizes = λ z. ap₂ (λ b c. b && c) (whole-keeps s) h.1 }
  drives-port o (out_of y w) x q h k i = absurd h

  -- a port that drives
  pub port-drives : (o : u.Design) (link : Link) (x : FTarget) (y : FExpr) → IsEnd pins (ends.Output x) link → ShowsDesign pins d o
      → (expr_of y ≡ bits_read false s 0 (width_at o.entries s) (reset_at o.entries s)) × (keeps_sizes y ≡ true)
      → v.items ≡ d.assigns.items ++ (record { target = x; value = y }) ∷ [] → ShowsDesign pins (record d { assigns = v }) (connect_at o s link)
  port-drives o (into a z r) x y h k c i = absurd h
  port-drives o (out_of a z) x y h k c i = shows-assign pins d o k v (record { target = x; value = y }) z (bits_read false s 0 (width_at o.entries s) (reset_at o.entries s)) i
      record { target = λ b. h.0; value = λ b. c.0; sizes = λ b. ap₂ (λ b c. b && c) h.1 c.1 }

-- ---- ports that are signals

signal-named : (m : Option n.Meaning) (s : ℕ) → Some s ≡ if_signal m → m ≡ Some (n.a_signal s)
signal-named None s e = absurd (search (rules, e))
signal-named (Some (n.a_param p)) s e = absurd (search (rules, e))
signal-named (Some (n.a_signal t)) s e = ap (λ i. Some (n.a_signal i)) (sym (some_is s t e))
signal-named (Some (n.a_memory a)) s e = absurd (search (rules, e))
signal-named (Some n.no_value) s e = absurd (search (rules, e))

module _ (names : n.Names) (o : u.Design) where
  pub port-signal : (link : Link) (s : ℕ) → Some s ≡ if_signal (meaning_in names (port_of link)) → AreFitNames names (length o.entries) → (s < length o.entries) × (connect_at o s link ≡ connect_one names o link)
  port-signal (into x v r) s e fit = let m = signal-named (meaning_in names x) s e in (fit.signals x s m, ap (into_port o v r) (sym m))
  port-signal (out_of x t) s e fit = let m = signal-named (meaning_in names x) s e in (fit.signals x s m, ap (out_of_port o t) (sym m))

  pub no-signal : (link : Link) → None ≡ if_signal (meaning_in names (port_of link)) → connect_one names o link ≡ o
  no-signal (into x v r) = go (meaning_in names x)
    where
      go : (m : Option n.Meaning) → None ≡ if_signal m → into_port o v r m ≡ o
      go None e = refl
      go (Some (n.a_param p)) e = refl
      go (Some (n.a_signal s)) e = absurd (search (rules, e))
      go (Some (n.a_memory a)) e = refl
      go (Some n.no_value) e = refl
  no-signal (out_of x t) = go (meaning_in names x)
    where
      go : (m : Option n.Meaning) → None ≡ if_signal m → out_of_port o t m ≡ o
      go None e = refl
      go (Some (n.a_param p)) e = refl
      go (Some (n.a_signal s)) e = absurd (search (rules, e))
      go (Some (n.a_memory a)) e = refl
      go (Some n.no_value) e = refl

-- ---- connections so far

pub record WiredSoFar {S : Type 0} (pins : List ResetPin) (names : n.Names) (ports : IndexMap Text (Option Bool) S) (start : u.Design) (all : List Link) (d : Design) (left : List Connection) : Type 0 where
  pub now : u.Design
  pub rest : List Link
  pub whole : connect_all names start all ≡ connect_all names now rest
  pub shows : ShowsDesign pins d now
  pub fit : AreFitNames names (length now.entries)
  pub links : AllZip (IsLinkOf pins ports) left rest

module _ {S : Type 0} (pins : List ResetPin) (names : n.Names) (ports : IndexMap Text (Option Bool) S) (start : u.Design) (all : List Link) where
  pub wired-step : (c : Connection) (cs left : List Connection) (d g : Design) → left ≡ c ∷ cs → WiredSoFar pins names ports start all d left
      → ((e : u.Design) (link : Link) → ShowsDesign pins d e → AreFitNames names (length e.entries) → IsLinkOf pins ports c link → ShowsDesign pins g (connect_one names e link)) → WiredSoFar pins names ports start all g cs
  wired-step c cs left d g e h step = go h.rest h.whole (subst (λ ks. AllZip (IsLinkOf pins ports) ks h.rest) e h.links)
    where
      go : (rest : List Link) → connect_all names start all ≡ connect_all names h.now rest → AllZip (IsLinkOf pins ports) (c ∷ cs) rest → WiredSoFar pins names ports start all g cs
      go [] w z = absurd z
      go (link ∷ links) w z = record {
        now = connect_one names h.now link;
        rest = links;
        whole = w;
        shows = step h.now link h.shows h.fit z.0;
        fit = subst (AreFitNames names) (sym (one-alike names h.now link).count) h.fit;
        links = z.1;
      }

  pub wired-all : (left : List Connection) (d : Design) → left ≡ [] → WiredSoFar pins names ports start all d left → ShowsDesign pins d (connect_all names start all)
  wired-all left d e h = subst (ShowsDesign pins d) (sym h.whole) (go h.rest (subst (λ ks. AllZip (IsLinkOf pins ports) ks h.rest) e h.links))
    where
      go : (rest : List Link) → AllZip (IsLinkOf pins ports) [] rest → ShowsDesign pins d (connect_all names h.now rest)
      go [] z = h.shows
      go (link ∷ links) z = absurd z
