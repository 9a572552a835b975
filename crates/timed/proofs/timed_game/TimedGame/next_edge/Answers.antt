use Rattle.std.proofs.Common.{◌≡◌, map, Some, sym, ap, ◌∙◌, arith}
use Rattle.std.specs.List.{slice_get}
use Rattle.std.proofs.lemmas.Option.{slice_get_within}
use Rattle.regions.specs.Standing.{standing}
use Rattle.game.specs.Timed.{in_code}
use Rattle.timed.specs.Code.{game_of}
use Rattle.timed.proofs.Tables.{guard_checked}
use Rattle.timed.proofs.Listing.{edge_given, edge_passed, edges_end}
use Rattle.timed.proofs.timed_game.TimedGame.next_edge.Goals as goal

pub take_edge-requires : goal.take_edge-requires
take_edge-requires c =
    let there : Some c.in-Some.edge ≡ slice_get (game_of c.args.self.now).edges c.loop-edge.from = c.in-Some.ensures ∙ ap (λ xs. slice_get xs c.loop-edge.from) c.as_slice.ensures.value in
    guard_checked (game_of c.args.self.now) c.args.self.now.ok c.loop-edge.from c.in-Some.edge there

pub returns-in-Some-take_edge : goal.returns-in-Some-take_edge
returns-in-Some-take_edge c =
    let there : Some c.in-Some.edge ≡ slice_get (game_of c.args.self.now).edges c.loop-edge.from = c.in-Some.ensures ∙ ap (λ xs. slice_get xs c.loop-edge.from) c.as_slice.ensures.value in
    ap (map in_code) c.loop-edge.invariant
    ∙ edge_given (game_of c.args.self.now) c.args.place.location (standing c.args.place.clocks) c.loop-edge.from c.in-Some.edge there (slice_get_within (game_of c.args.self.now).edges c.loop-edge.from c.in-Some.edge (sym there)) c.in-Some-take_edge.outcome c.in-Some-take_edge.ensures

pub loop-edge-preserved : goal.loop-edge-preserved
loop-edge-preserved c =
    let there : Some c.in-Some.edge ≡ slice_get (game_of c.args.self.now).edges c.loop-edge.from = c.in-Some.ensures ∙ ap (λ xs. slice_get xs c.loop-edge.from) c.as_slice.ensures.value in
    c.loop-edge.invariant
    ∙ edge_passed (game_of c.args.self.now) c.args.place.location (standing c.args.place.clocks) c.loop-edge.from c.in-Some.edge there (slice_get_within (game_of c.args.self.now).edges c.loop-edge.from c.in-Some.edge (sym there)) c.in_default-take_edge.ensures

pub loop-edge-smaller : goal.loop-edge-smaller
loop-edge-smaller c =
    let there : Some c.in-Some.edge ≡ slice_get (game_of c.args.self.now).edges c.loop-edge.from = c.in-Some.ensures ∙ ap (λ xs. slice_get xs c.loop-edge.from) c.as_slice.ensures.value in
    omega (arith, slice_get_within (game_of c.args.self.now).edges c.loop-edge.from c.in-Some.edge (sym there))

pub returns : goal.returns
returns c =
    let past = edges_end (game_of c.args.self.now) c.args.place.location (standing c.args.place.clocks) c.loop-edge.from (c.in_default.ensures ∙ ap (λ xs. slice_get xs c.loop-edge.from) c.as_slice.ensures.value) in
    (ap (map in_code) (c.loop-edge.invariant ∙ past), ap (map in_code) past)
