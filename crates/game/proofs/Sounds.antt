-- A sound game taken apart.
use Rattle.std.proofs.Common.{◌≡◌, ℕ, zero, suc, ◌≤◌, Bool, true, ◌&&◌, leb, List, [], ◌∷◌, length, Some, sym, ◌∙◌, arith}
use mathlib.Core.Bool.{and_assoc}
use Rattle.std.specs.List.{slice_get, AllByRecursion, list_all}
use Rattle.std.proofs.lemmas.Bool.{and_parts, leb-true, le-leb}
use Rattle.regions.specs.Code.{ceiled}
use Rattle.game.specs.declared.parts.Edge.{Edge}
use Rattle.game.specs.Game.{Game, owns, start, limits, in_turn, sound_location, sound_edge, sound}
use Rattle.game.specs.Start.{well_made}

-- what every element passes
pub every_all : {X : Type 0} (p : X → Bool) (xs : List X) → list_all p xs ≡ true → AllByRecursion (λ x. p x ≡ true) xs
every_all p [] h = tt
every_all p (x ∷ xs) h = let t = and_parts (p x) (list_all p xs) h in (t.0, every_all p xs t.1)

pub nth_all : {X : Type 0} (P : X → Type 0) (xs : List X) (i : ℕ) (x : X) → AllByRecursion P xs → slice_get xs i ≡ Some x → P x
nth_all P [] i x h e = let z : ◌≡◌ {A = ℕ} 0 1 = cc in let n : ⊥ = omega arith in absurd n
nth_all P (y ∷ xs) zero x h e = let i : y ≡ x = cc in rw i at h.0
nth_all P (y ∷ xs) (suc i) x h e = nth_all P xs i x h.1 e

-- the start is the last part
pub sound_start : (g : Game) → sound g ≡ (well_made g && owns g (start g))
sound_start g = simp and_assoc

-- the parts by name
pub record Made (g : Game) : Type 0 where
  pub low : ceiled g.ceilings ≡ true
  pub ordered : in_turn g.ceilings ≡ true
  pub few_locations : length g.locations ≤ 32
  pub locations_sound : list_all (sound_location g.ceilings) g.locations ≡ true
  pub few_edges : length g.edges ≤ 64
  pub edges_sound : list_all (sound_edge g.ceilings (length g.locations)) g.edges ≡ true

pub made : (g : Game) → well_made g ≡ true → Made g
made g h =
    let e : Bool = list_all (sound_edge g.ceilings (length g.locations)) g.edges in
    let d : Bool = leb (length g.edges) 64 in
    let c : Bool = list_all (sound_location g.ceilings) g.locations in
    let b : Bool = leb (length g.locations) 32 in
    let a : Bool = in_turn g.ceilings in
    let t = and_parts (ceiled g.ceilings) (a && (b && (c && (d && e)))) h in
    let u = and_parts a (b && (c && (d && e))) t.1 in
    let v = and_parts b (c && (d && e)) u.1 in
    let w = and_parts c (d && e) v.1 in
    let x = and_parts d e w.1 in
    record {
      low = t.0;
      ordered = u.0;
      few_locations = leb-true (length g.locations) 32 v.0;
      locations_sound = w.0;
      few_edges = leb-true (length g.edges) 64 x.0;
      edges_sound = x.1;
    }

pub made_back : (g : Game) → Made g → well_made g ≡ true
made_back g m =
    rw (m.low, m.ordered, le-leb (length g.locations) 32 m.few_locations, m.locations_sound, le-leb (length g.edges) 64 m.few_edges) m.edges_sound

module _ (g : Game) (s : sound g ≡ true) where
  pub sound_parts : (well_made g ≡ true) × (owns g (start g) ≡ true)
  sound_parts = and_parts (well_made g) (owns g (start g)) (sym (sound_start g) ∙ s)

  pub sound_made : Made g
  sound_made = made g sound_parts.0

  pub sound_edge_lem : (i : ℕ) (e : Edge) → slice_get g.edges i ≡ Some e → sound_edge g.ceilings (length g.locations) e ≡ true
  sound_edge_lem i e h =
      nth_all (λ e. sound_edge g.ceilings (length g.locations) e ≡ true) g.edges i e
      (every_all (sound_edge g.ceilings (length g.locations)) g.edges sound_made.edges_sound) h

  pub sound_ceilings : AllByRecursion (λ c. c ≤ 15) (limits g)
  sound_ceilings =
      let h = every_all (λ c. leb c 15) (limits g) sound_made.low in
      (leb-true g.ceilings.x 15 h.0, (leb-true g.ceilings.y 15 h.1.0, (leb-true g.ceilings.z 15 h.1.1.0, (omega arith, tt))))
