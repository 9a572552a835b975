use Rattle.std.proofs.Common.{ℕ, ◌-◌, ◌<◌, length, get_or, None, Option, unwrap_or, refl, sym, subst, arith, rules}
use Rattle.std.proofs.lemmas.Option.{slice_get-get_or}
use Rattle.plan.proofs.Buckets.{Sought, look_first, look_within, look_found, look_more, look_nearer, look_none}
use Rattle.plan.proofs.index.IndexedRows.row_of.Goals as goal

pub loop-next-init : goal.loop-next-init
loop-next-init g c =
    let x = c.args.self.now in
    let m = g.A.Arena.meaning x.arena.now in
    let ok = g.met.A.Arena.lawful x.arena.now in
    let F : ℕ → Type 0 = λ b. Sought m x.rows.now ok c.args.position.now c.args.latch (get_or x.buckets.heads b None) in
    subst F (sym c.bucket_of.ensures) (look_first m x.rows.now ok c.args.position.now c.args.latch x.buckets.heads x.buckets.links x.indexed)

pub offset_bounds-self-s : goal.offset_bounds-self-s
offset_bounds-self-s g c =
    let x = c.args.self.now in
    let ok = g.met.A.Arena.lawful x.arena.now in
    let F : Option ℕ → Type 0 = λ o. Sought (g.A.Arena.meaning x.arena.now) x.rows.now ok c.args.position.now c.args.latch o in
    let lt : c.in-Some.s < length x.rows.now = look_within (g.A.Arena.meaning x.arena.now) x.rows.now ok c.args.position.now c.args.latch c.in-Some.s (subst F c.in-Some.is c.loop-next.invariant) in
    search rules

pub bounds-self-s : goal.bounds-self-s
bounds-self-s g c =
    let x = c.args.self.now in
    let ok = g.met.A.Arena.lawful x.arena.now in
    let F : Option ℕ → Type 0 = λ o. Sought (g.A.Arena.meaning x.arena.now) x.rows.now ok c.args.position.now c.args.latch o in
    look_within (g.A.Arena.meaning x.arena.now) x.rows.now ok c.args.position.now c.args.latch c.in-Some.s (subst F c.in-Some.is c.loop-next.invariant)

pub bounds-self-s-in-Some : goal.bounds-self-s-in-Some
bounds-self-s-in-Some g c =
    let x = c.args.self.now in
    let ok = g.met.A.Arena.lawful x.arena.now in
    let F : Option ℕ → Type 0 = λ o. Sought (g.A.Arena.meaning x.arena.now) x.rows.now ok c.args.position.now c.args.latch o in
    let lt : c.in-Some.s < length x.rows.now = look_within (g.A.Arena.meaning x.arena.now) x.rows.now ok c.args.position.now c.args.latch c.in-Some.s (subst F c.in-Some.is c.loop-next.invariant) in
    omega (arith, x.few)

pub returns-then-stands_at : goal.returns-then-stands_at
returns-then-stands_at g c =
    let x = c.args.self.now in
    let m = g.A.Arena.meaning x.arena.now in
    let ok = g.met.A.Arena.lawful x.arena.now in
    let s = c.in-Some.s in
    let F : Option ℕ → Type 0 = λ o. Sought m x.rows.now ok c.args.position.now c.args.latch o in
    let z = subst F c.in-Some.is c.loop-next.invariant in
    let e = slice_get-get_or x.rows.now s c.index-self-s.result (look_within m x.rows.now ok c.args.position.now c.args.latch s z) in
    sym (look_found m x.rows.now ok c.args.position.now c.args.latch s z (get_or x.rows.now s c.index-self-s.result) e (sym c.if-stands_at.ensures))

pub loop-next-smaller : goal.loop-next-smaller
loop-next-smaller g c =
    let x = c.args.self.now in
    let m = g.A.Arena.meaning x.arena.now in
    let ok = g.met.A.Arena.lawful x.arena.now in
    let s = c.in-Some.s in
    let n = length x.rows.now in
    let next = get_or x.buckets.links s None in
    let F : Option ℕ → Type 0 = λ o. Sought m x.rows.now ok c.args.position.now c.args.latch o in
    let z = subst F c.in-Some.is c.loop-next.invariant in
    let e = slice_get-get_or x.rows.now s c.index-self-s.result (look_within m x.rows.now ok c.args.position.now c.args.latch s z) in
    let G : Option ℕ → Type 0 = λ o. n - unwrap_or next n < n - unwrap_or o n in
    subst G (sym c.in-Some.is)
    (look_nearer m x.rows.now ok c.args.position.now c.args.latch s z (get_or x.rows.now s c.index-self-s.result) e x.buckets.heads x.buckets.links x.indexed next refl)

pub loop-next-preserved : goal.loop-next-preserved
loop-next-preserved g c =
    let x = c.args.self.now in
    let m = g.A.Arena.meaning x.arena.now in
    let ok = g.met.A.Arena.lawful x.arena.now in
    let s = c.in-Some.s in
    let F : Option ℕ → Type 0 = λ o. Sought m x.rows.now ok c.args.position.now c.args.latch o in
    let z = subst F c.in-Some.is c.loop-next.invariant in
    let e = slice_get-get_or x.rows.now s c.index-self-s.result (look_within m x.rows.now ok c.args.position.now c.args.latch s z) in
    look_more m x.rows.now ok c.args.position.now c.args.latch s z (get_or x.rows.now s c.index-self-s.result) e x.buckets.heads x.buckets.links x.indexed (sym c.if-stands_at.ensures)

pub returns : goal.returns
returns g c =
    let x = c.args.self.now in
    let m = g.A.Arena.meaning x.arena.now in
    let ok = g.met.A.Arena.lawful x.arena.now in
    let F : Option ℕ → Type 0 = λ o. Sought m x.rows.now ok c.args.position.now c.args.latch o in
    sym (look_none m x.rows.now ok c.args.position.now c.args.latch (subst F c.in_default.is c.loop-next.invariant))
