-- Values without fractions.
use Rattle.std.proofs.Common.{◌≡◌, Bool, true, false, true≢false, List, ℕ, Ordering, Less, Equal, Greater, nat_cmp, refl, ap, ◌∙◌, OnOk, OnErr, Result, Ok, Err, Option, Some, None, String, Global, [], ◌∷◌, map}
use Rattle.std.specs.Prelude.{◌||◌, ◌++◌}
use Rattle.std.specs.Cmp.Lexicographic.{slice_cmp}
use Rattle.std.specs.Ordering.{match_ordering}
use Rattle.serde_json.specs.Data.{Data, Members, no_members, member, put}
use Rattle.serde_json.specs.View.{members_view, items_of}
use Rattle.serde_json.specs.declared.value.Value.{Value}
use Rattle.serde_json.specs.Written.{has_float, members_have_float, items_have_float}
use Rattle.ospf_types.specs.declared.hop.NextHop.{NextHop}
use Rattle.ospf_types.specs.declared.hop.NextHop.TheVariants.{Direct, Peer, Router}
use Rattle.ospf_types.specs.declared.hop.Path.{Path}
use Rattle.output_lines.specs.Members.{object_of}
use Rattle.output_lines.specs.Routes.{hop_members, through_members, path_data, paths_data}

or_of : (a b : Bool) → a ≡ false → b ≡ false → a || b ≡ false
or_of true b p q = absurd (true≢false p)
or_of false b p q = q

first_of_or : (a b : Bool) → a || b ≡ false → a ≡ false
first_of_or true b p = absurd (true≢false p)
first_of_or false b p = refl

second_of_or : (a b : Bool) → a || b ≡ false → b ≡ false
second_of_or true b p = absurd (true≢false p)
second_of_or false b p = p

whichever : (o : Ordering) (a b c : Members) → members_have_float a ≡ false → members_have_float b ≡ false → members_have_float c ≡ false
    → members_have_float (match_ordering o a b c) ≡ false
whichever Less a b c p q r = p
whichever Equal a b c p q r = q
whichever Greater a b c p q r = r

-- a member without a fraction leaves the object so
pub members_have_float-put : (name : List ℕ) (d : Data) (ms : Members) → has_float d ≡ false → members_have_float ms ≡ false → members_have_float (put name d ms) ≡ false
members_have_float-put name d no_members plain all = or_of (has_float d) false plain refl
members_have_float-put name d (member l e ms) plain all =
    let here = first_of_or (has_float e) (members_have_float ms) all in
    let later = second_of_or (has_float e) (members_have_float ms) all in
    whichever (slice_cmp nat_cmp name l) _ _ _ (or_of (has_float d) _ plain all) (or_of (has_float d) _ plain later) (or_of (has_float e) _ here (members_have_float-put name d ms plain later))

-- a write leaves them so
pub after_written : (name : List ℕ) (d : Data) (old new : List (String Global × Value)) → members_view new ≡ put name d (members_view old)
    → has_float d ≡ false → members_have_float (members_view old) ≡ false → members_have_float (members_view new) ≡ false
after_written name d old new done plain all = ap members_have_float done ∙ members_have_float-put name d (members_view old) plain all

-- and a failed one leaves the members as they were
pub after_put : {E : Type 0} (r : Result (Unit {0}) E) (name : List ℕ) (d : Data) (old new : List (String Global × Value))
    → OnOk r (members_view new ≡ put name d (members_view old)) → OnErr r (new ≡ old)
    → has_float d ≡ false → members_have_float (members_view old) ≡ false → members_have_float (members_view new) ≡ false
after_put (Ok x) name d old new done failed plain all = after_written name d old new done plain all
after_put (Err e) name d old new done failed plain all = ap (λ es. members_have_float (members_view es)) failed ∙ all

path_without : (hop : NextHop) (router : Option ℕ) → has_float (object_of (hop_members hop ++ through_members router)) ≡ false
path_without (Direct id) None = refl
path_without (Direct id) (Some router) = refl
path_without (Peer id) None = refl
path_without (Peer id) (Some router) = refl
path_without (Router id address) None = refl
path_without (Router id address) (Some router) = refl

items_without : (paths : List Path) → items_have_float (items_of (map path_data paths)) ≡ false
items_without [] = refl
items_without (p ∷ ps) = or_of (has_float (path_data p)) _ (path_without p.hop p.advertiser) (items_without ps)

-- the paths of a route have no fraction
pub has_float-paths_data : (paths : List Path) → has_float (paths_data paths) ≡ false
has_float-paths_data paths = items_without paths
