use Rattle.std.proofs.Common.{Err, refl, ap, ◌∙◌}
use Rattle.std.proofs.lemmas.Result.{err_from_is_err_and}
use Rattle.loops.specs.Table.{graph_of}
use Rattle.ranker.proofs.Rankings.{told, few, few_arcs, refuted, refuted_exact, filled, filled_exact}
use Rattle.ranker.proofs.ranker.rank_with.Goals as goal

pub invariant_of-arcs : goal.invariant_of-arcs
invariant_of-arcs g c =
    let m = g.A.Arena.meaning c.args.arena.now in
    let rows = c.args.rows.now in
    let ranks = c.args.ranks.now in
    let losing = c.args.losing.now in
    let e = c.in_ok-accepted.ensures in
    let a = c.in_ok-accepted.accepted in
    record {
      few = few_arcs m rows ranks losing a e.answers _ _ _ c.deref.ensures.value (e.shown refl);
      small = few m rows ranks losing a e.answers;
      told = (∣ (graph_of m rows, told m rows ranks losing a e.answers _ _ _ c.deref.ensures.value (e.shown refl)) ∣₁);
    }

pub returns-in_err-rank : goal.returns-in_err-rank
returns-in_err-rank g c =
    let m = g.A.Arena.meaning c.args.arena.now in
    let rows = c.args.rows.now in
    let ranks = c.args.ranks.now in
    let losing = c.args.losing.now in
    let e = c.in_ok-accepted.ensures in
    let a = c.in_ok-accepted.accepted in
    let r = c.from_residual-in_err-rank.result in
    let p = err_from_is_err_and r c.from_residual-in_err-rank.ensures.1 in
    let is = p.1 ∙ ap Err p.2 in
    let d = c.in_err-rank.ensures.drafted (graph_of m rows) (told m rows ranks losing a e.answers _ _ _ c.deref.ensures.value (e.shown refl)) in
    let rest = c.in_err-rank.ensures.ranks refl in
    record {
      ranked = refuted m rows ranks losing a e.answers c.rank.new.ranks c.rank.new.losing r _ is d rest;
      exact = refuted_exact m rows ranks losing a e.answers c.rank.new.ranks c.rank.new.losing r _ is d rest;
    }

pub returns : goal.returns
returns g c =
    let m = g.A.Arena.meaning c.args.arena.now in
    let rows = c.args.rows.now in
    let ranks = c.args.ranks.now in
    let losing = c.args.losing.now in
    let e = c.in_ok-accepted.ensures in
    let a = c.in_ok-accepted.accepted in
    let d = c.in_ok-rank.ensures.drafted (graph_of m rows) (told m rows ranks losing a e.answers _ _ _ c.deref.ensures.value (e.shown refl)) in
    let rest = c.in_ok-rank.ensures.pairs refl in
    record {
      ranked = filled m rows ranks losing a e.answers c.rank.new.ranks c.rank.new.losing d rest c.rank.auto.ranks;
      exact = filled_exact m rows ranks losing a e.answers c.rank.new.ranks c.rank.new.losing d rest c.rank.auto.ranks;
    }
