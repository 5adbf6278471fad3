-- The ways of one synchronizer more.
use Rattle.std.proofs.Common.{◌≡◌, ◌∙◌, ap, sym, ℕ, ◌+◌, ◌<◌, ◌++◌, [], List, cond, length, get_or, drop, append_assoc}
use Rattle.std.proofs.lemmas.List.{at_drop_more}
use Rattle.domains.specs.declared.Domains.{Domains}
use Rattle.cdc_model.specs.declared.scheme.GrayReg.{GrayReg}
use Rattle.cdc_model.specs.declared.scheme.Sync.{Sync}
use Rattle.fifo_scheme.specs.declared.finder.Way.{Way}
use Rattle.fifo_scheme.specs.Candidates.{is_code_word, listed, way_of, ways_of}

module _ (domains : Domains) (grays : List GrayReg) where
  -- those of one synchronizer
  abbrev pub ways_by : Sync → List Way
  ways_by s = cond (is_code_word grays s.from.sig) (listed (way_of domains s)) []

  pub way_added : (syncs : List Sync) (i : ℕ) (s : Sync) (old new : List Way) → i < length syncs → s ≡ get_or syncs i s
      → ways_of domains syncs grays ≡ old ++ ways_of domains (drop i syncs) grays → new ≡ old ++ ways_by s
      → ways_of domains syncs grays ≡ new ++ ways_of domains (drop (i + 1) syncs) grays
  way_added syncs i s old new l is so_far added =
      let rest = ways_of domains (drop (i + 1) syncs) grays in
      so_far
      ∙ ap (λ (ws : List Way). old ++ ws) (at_drop_more (λ (ss : List Sync). ways_of domains ss grays) syncs i s l ∙ ap (λ (x : Sync). ways_by x ++ rest) (sym is))
      ∙ sym (append_assoc old (ways_by s) rest)
      ∙ ap (λ (ws : List Way). ws ++ rest) (sym added)
