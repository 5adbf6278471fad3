use Rattle.std.proofs.Common.{◌≡◌, ◌+◌, ◌<◌, ◌≤◌, None, Err, length, get_or, refl, ap, sym, subst, ◌∙◌, rules}
use Rattle.verilog_reading.specs.SourceTree.{DeclTree, decl_of, module_of}
use Rattle.flat_unfolding.specs.Outcome.{Outcome, then_, each}
use Rattle.flat_unfolding.specs.Declarations.{Site, sites, header_of, declaration, directed, declarations}
use Rattle.flat_unfolding.specs.Design.{Stage}
use Rattle.flat_unfolding.specs.Formed.{IsDeclFormed}
use Rattle.flat_declarations.specs.Declaring.{MeetsFit}
use Rattle.flat_declarations.proofs.Kept.{directions-fit}
use Rattle.flat_declarations.proofs.Ended.{IsWalk, walk-ok, walk-err, walk-skip, walk-end, walk-begin, walk-on}
use Rattle.flat_declarations.proofs.Walks.{in_header, inside, sites_left, inner_sites, site-next, site-skip, sites-done, inner-site, inner-skip, inner-sites-done, all-sites, all-inner-sites}
use Rattle.flat_declarations.proofs.Declares.{meets-fit}
use Rattle.flat_declarations.proofs.declare.add_declarations.Goals as goal
use Rattle.flat_declarations.proofs.declare.add_declarations.Goals.{in-Some+in_ok-add_declaration, in_default, in-Decl+in_ok-add_declaration-2, in_default-body}

abbrev IsFormed : Site × DeclTree → Type 0
IsFormed q = IsDeclFormed q.1

pub loop-port-init : goal.loop-port-init
loop-port-init c = λ pins s sh is formed.
    let m = c.args.module.now in let prefix = c.args.prefix.now in
    let after : Stage → Outcome Stage = λ t. each (directed (module_of m)) t (header_of (module_of m)) in
    walk-begin pins declaration after IsFormed c.args.names.now c.args.design.now s (sites_left prefix m 0) (declarations prefix (module_of m) s)
    (ap (λ h. then_ h (λ u. then_ (each declaration s (sites prefix (module_of m))) after)) c.in_ok-header.ensures.exact.0) sh is (all-sites prefix m formed)

pub returns-in_err-add_declaration-clause-exact : goal.returns-in_err-add_declaration-clause-exact
returns-in_err-add_declaration-clause-exact c = λ pins s sh is formed.
    let m = c.args.module.now in let prefix = c.args.prefix.now in let x = c.port-item.result in let i = c.loop-port.port-index in let at = c.as_slice-port-items.ensures in let d = c.in-Some.decl in
    let after : Stage → Outcome Stage = λ t. each (directed (module_of m)) t (header_of (module_of m)) in
    let o = declarations prefix (module_of m) s in let new = c.add_declaration.new in let stop = c.in_err-add_declaration.field-0.0 in
    let q = in_header prefix m (decl_of d) in
    let same : c.from_residual-in_err-add_declaration.result ≡ Err stop = search rules in
    subst (λ r. MeetsFit pins new.names o r new.design) (sym same)
    (walk-err pins o declaration after IsFormed c.loop-port.names new.names c.loop-port.design new.design (sites_left prefix m i) (sites_left prefix m (i + 1)) q stop
    (site-next prefix m i x d (subst (λ xs. i < length xs) at c.loop-port-test.true) (subst (λ xs. x ≡ get_or xs i x) at c.port-item.is) c.in-Some.is) (c.loop-port.invariant pins s sh is formed)
    (λ f t th tf. c.in_err-add_declaration.ensures.exact pins t q.0 th tf f (record { prefix = refl; header = c.in_ok-header.ensures.exact.1 }) refl refl))

pub loop-port-preserved : goal.loop-port-preserved
loop-port-preserved c = λ pins s sh is formed.
    let m = c.args.module.now in let prefix = c.args.prefix.now in let x = c.port-item.result in let i = c.loop-port.port-index in let at = c.as_slice-port-items.ensures in
    let after : Stage → Outcome Stage = λ t. each (directed (module_of m)) t (header_of (module_of m)) in
    let o = declarations prefix (module_of m) s in
    let there : i < length m.ports = subst (λ xs. i < length xs) at c.loop-port-test.true in let here : x ≡ get_or m.ports i x = subst (λ xs. x ≡ get_or xs i x) at c.port-item.is in
    elim c.match-port.branch [
      | in-Some+in_ok-add_declaration w ↦
          let d = w.in-Some.decl in let q = in_header prefix m (decl_of d) in let new = w.add_declaration.new in
          subst (λ names. IsWalk pins o declaration after IsFormed names c.match-port.design (sites_left prefix m (i + 1))) (sym w.names-is)
          (subst (λ design. IsWalk pins o declaration after IsFormed new.names design (sites_left prefix m (i + 1))) (sym w.design-is)
          (walk-ok pins o declaration after IsFormed c.loop-port.names new.names c.loop-port.design new.design (sites_left prefix m i) (sites_left prefix m (i + 1)) q tt
          (site-next prefix m i x d there here w.in-Some.is) (c.loop-port.invariant pins s sh is formed)
          (λ f t th tf. w.in_ok-add_declaration.ensures.exact pins t q.0 th tf f (record { prefix = refl; header = c.in_ok-header.ensures.exact.1 }) refl refl)))
      | in_default w ↦
          let none : x.decl ≡ None = search rules in
          subst (λ names. IsWalk pins o declaration after IsFormed names c.match-port.design (sites_left prefix m (i + 1))) (sym w.names-is)
          (subst (λ design. IsWalk pins o declaration after IsFormed c.loop-port.names design (sites_left prefix m (i + 1))) (sym w.design-is)
          (walk-skip pins o declaration after IsFormed c.loop-port.names c.loop-port.design (sites_left prefix m i) (sites_left prefix m (i + 1)) (site-skip prefix m i x there here none) (c.loop-port.invariant pins s sh is formed)))
    ]

pub loop-item-init : goal.loop-item-init
loop-item-init c = λ pins s sh is formed.
    let m = c.args.module.now in let prefix = c.args.prefix.now in
    let after : Stage → Outcome Stage = λ t. each (directed (module_of m)) t (header_of (module_of m)) in
    walk-begin pins declaration after IsFormed c.loop-port.names c.loop-port.design s (inner_sites prefix m 0) (then_ (each declaration s (inner_sites prefix m 0)) after) refl sh is (all-inner-sites prefix m formed)

pub returns-in_err-add_declaration-2-clause-exact : goal.returns-in_err-add_declaration-2-clause-exact
returns-in_err-add_declaration-2-clause-exact c = λ pins s sh is formed.
    let m = c.args.module.now in let prefix = c.args.prefix.now in let x = c.item-item.result in let i = c.loop-item.item-index in let at = c.as_slice-item-items.ensures in let d = c.in-Decl.decl in
    let after : Stage → Outcome Stage = λ t. each (directed (module_of m)) t (header_of (module_of m)) in
    let o = declarations prefix (module_of m) s in let new = c.add_declaration-in-Decl.new in let stop = c.in_err-add_declaration-2.field-0.0 in
    let q = inside prefix m (x.place, decl_of d) in let j = c.loop-port.port-index in
    let w = walk-on pins o declaration after IsFormed c.loop-port.names c.loop-port.design (sites_left prefix m j) (inner_sites prefix m 0)
    (sites-done prefix m j (subst (λ xs. length xs ≤ j) c.as_slice-port-items.ensures c.loop-port-test.false)) (c.loop-port.invariant pins s sh is formed) in
    let p = then_ (each declaration w.0 (inner_sites prefix m 0)) after in
    let same : c.from_residual-in_err-add_declaration-2.result ≡ Err stop = search rules in
    subst (λ r. MeetsFit pins new.names o r new.design) (sym same)
    (subst (λ z. MeetsFit pins new.names z (Err stop) new.design) (sym w.1)
    (walk-err pins p declaration after IsFormed c.loop-item.names new.names c.loop-item.design new.design (inner_sites prefix m i) (inner_sites prefix m (i + 1)) q stop
    (inner-site prefix m i x d (subst (λ xs. i < length xs) at c.loop-item-test.true) (subst (λ xs. x ≡ get_or xs i x) at c.item-item.is) c.in-Decl.is) (c.loop-item.invariant pins w.0 w.2 w.3 formed)
    (λ f t th tf. c.in_err-add_declaration-2.ensures.exact pins t q.0 th tf f (record { prefix = refl; header = c.in_ok-header.ensures.exact.1 }) refl refl)))

pub loop-item-preserved : goal.loop-item-preserved
loop-item-preserved c = λ pins s sh is formed.
    let m = c.args.module.now in let prefix = c.args.prefix.now in let x = c.item-item.result in let i = c.loop-item.item-index in let at = c.as_slice-item-items.ensures in
    let after : Stage → Outcome Stage = λ t. each (directed (module_of m)) t (header_of (module_of m)) in
    let o = then_ (each declaration s (inner_sites prefix m 0)) after in
    let there : i < length m.items = subst (λ xs. i < length xs) at c.loop-item-test.true in let here : x ≡ get_or m.items i x = subst (λ xs. x ≡ get_or xs i x) at c.item-item.is in
    elim c.match-item.branch [
      | in-Decl+in_ok-add_declaration-2 w ↦
          let d = w.in-Decl.decl in let q = inside prefix m (x.place, decl_of d) in let new = w.add_declaration-in-Decl.new in
          subst (λ names. IsWalk pins o declaration after IsFormed names c.match-item.design (inner_sites prefix m (i + 1))) (sym w.names-is)
          (subst (λ design. IsWalk pins o declaration after IsFormed new.names design (inner_sites prefix m (i + 1))) (sym w.design-is)
          (walk-ok pins o declaration after IsFormed c.loop-item.names new.names c.loop-item.design new.design (inner_sites prefix m i) (inner_sites prefix m (i + 1)) q tt
          (inner-site prefix m i x d there here w.in-Decl.is) (c.loop-item.invariant pins s sh is formed)
          (λ f t th tf. w.in_ok-add_declaration-2.ensures.exact pins t q.0 th tf f (record { prefix = refl; header = c.in_ok-header.ensures.exact.1 }) refl refl)))
      | in_default-body w ↦
          subst (λ names. IsWalk pins o declaration after IsFormed names c.match-item.design (inner_sites prefix m (i + 1))) (sym w.names-is)
          (subst (λ design. IsWalk pins o declaration after IsFormed c.loop-item.names design (inner_sites prefix m (i + 1))) (sym w.design-is)
          (walk-skip pins o declaration after IsFormed c.loop-item.names c.loop-item.design (inner_sites prefix m i) (inner_sites prefix m (i + 1)) (inner-skip prefix m i x there here w.in_default-body.not-Decl) (c.loop-item.invariant pins s sh is formed)))
    ]

pub returns-clause-exact : goal.returns-clause-exact
returns-clause-exact c = λ pins s sh is formed.
    let m = c.args.module.now in let prefix = c.args.prefix.now in let i = c.loop-item.item-index in let j = c.loop-port.port-index in let names = c.loop-item.names in let design = c.loop-item.design in
    let after : Stage → Outcome Stage = λ t. each (directed (module_of m)) t (header_of (module_of m)) in
    let o = declarations prefix (module_of m) s in
    let w = walk-on pins o declaration after IsFormed c.loop-port.names c.loop-port.design (sites_left prefix m j) (inner_sites prefix m 0)
    (sites-done prefix m j (subst (λ xs. length xs ≤ j) c.as_slice-port-items.ensures c.loop-port-test.false)) (c.loop-port.invariant pins s sh is formed) in
    let p = then_ (each declaration w.0 (inner_sites prefix m 0)) after in
    let z = walk-end pins p declaration after IsFormed names design (inner_sites prefix m i)
    (inner-sites-done prefix m i (subst (λ xs. length xs ≤ i) c.as_slice-item-items.ensures c.loop-item-test.false)) (c.loop-item.invariant pins w.0 w.2 w.3 formed) in
    subst (λ k. MeetsFit pins names k c.try_header.result design) (sym (w.1 ∙ z.1))
    (meets-fit pins names (after z.0) c.try_header.result design (λ t e. directions-fit (module_of m) z.0 (header_of (module_of m)) t e z.3) (c.try_header.ensures.exact pins z.0 z.2))
