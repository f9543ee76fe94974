use mathlib.Core.Path.{◌≡◌, refl, sym, ap, ◌∙◌, subst}
use mathlib.Core.Bool.{not}
use mathlib.Core.List.{List}
use Prim.Native.Nat.{ℕ, ◌≤◌}
use lib.IntN.{ℤ}
use lib.ListN.{length}
use Rattle.lists.proofs.Tests.{true_T}
use Rattle.interface.proofs.Refusals.{gives, first_yes, first_no}
use Rattle.std.specs.Prelude.{Err}
use Rattle.answers.specs.declared.Refusal.{Refusal}
use Rattle.answers.specs.Answers.{number, Answer}
use Rattle.answers.proofs.WaysOut.{refused}
use mathlib.Core.List.{map}
use Rattle.matrix.specs.Checks.{Checked}
use Rattle.kinds.specs.Kinds.{kind_for, number_for}
use Rattle.kinds.specs.declared.Kind.{Kind}
use Rattle.kinds.proofs.Read.{accepted_for, is_of}
use Rattle.clusters.specs.PairList.{score}
use Rattle.clusters.specs.Groups.{groups}
use Rattle.clusters.specs.declared.Group.{Group}
use Rattle.listing.specs.Natural.{Natural}
use Rattle.interface.specs.Listing.{line_of, listing, groups_found, pairs_listing}
use Rattle.listing.specs.Over.{over_refusal, HandedOver}
use Rattle.listing.proofs.Over.{handed_over}
use Rattle.farzhudyl.specs.Pairs.{pairs_refusal, PairsListed}
use Rattle.farzhudyl.proofs.Found.{found_natural, found_listing}
use Rattle.farzhudyl.proofs.list_pairs.Goals as goal

-- refused by what the table gives
refusal : {kind : ℤ} {n : ℕ} {l : List ℤ} {out : List ℕ} {e : Refusal} → number e ≡ pairs_refusal kind n l (length out)
    → PairsListed kind n l out (Err e) out
refusal {kind} {n} {l} {out} h =
    let (a, w) = refused (length (pairs_listing kind n l)) (pairs_listing kind n l) out h in
    record { answered = a; written = w }

-- what was handed over is the listing of the groups found
handed : (kind : Kind) (n : ℕ) (l : List ℤ) (found : List Group) → found ≡ groups (kind_for kind) n (score l) → n ≤ 32
    → {lent out : List ℕ} {a : Answer} → HandedOver (listing (map (line_of 32) found)) lent a out → HandedOver (pairs_listing (number_for kind) n l) lent a out
unfolding pairs_listing groups_found
handed kind n l found e few {lent} {out} {a} h =
    rw (sym (is_of kind refl).1)
    (subst (λ (t : List ℕ). HandedOver t lent a out) (ap (λ (g : List Group). listing (map (line_of 32) g)) e ∙ found_listing (kind_for kind) n l few) h)

pub returns-then-not-scores_in_range : goal.returns-then-not-scores_in_range
unfolding pairs_refusal
returns-then-not-scores_in_range c =
    refusal (gives (first_yes (ap not (sym c.scores_in_range.ensures ∙ c.if-not-scores_in_range.true))))

pub returns-then-has_wrong_unscored : goal.returns-then-has_wrong_unscored
unfolding pairs_refusal
returns-then-has_wrong_unscored c =
    let eleven = ap not (sym c.scores_in_range.ensures ∙ c.if-not-scores_in_range.false) in
    refusal (gives (first_no eleven (first_yes (sym c.has_wrong_unscored.ensures ∙ c.if-has_wrong_unscored.true))))

pub returns-then-are_wrong_distances : goal.returns-then-are_wrong_distances
unfolding pairs_refusal
returns-then-are_wrong_distances c =
    let eleven = ap not (sym c.scores_in_range.ensures ∙ c.if-not-scores_in_range.false) in
    let sixteen = sym c.has_wrong_unscored.ensures ∙ c.if-has_wrong_unscored.false in
    let twelve = sym c.are_wrong_distances.ensures ∙ c.if-are_wrong_distances.true in
    refusal (gives (first_no eleven (first_no sixteen (first_yes twelve))))

pub invariant_of-of_kind : goal.invariant_of-of_kind
invariant_of-of_kind c =
    let range = true_T (sym c.scores_in_range.ensures ∙ c.if-not-scores_in_range.false) in
    let sixteen = sym c.has_wrong_unscored.ensures ∙ c.if-has_wrong_unscored.false in
    let checked : Checked c.args.list.now.n c.args.list.now.pairs.now = record { some = c.requires; few = c.args.list.now.fits.few; long = c.args.list.now.fits.long; range = range } in
    record { accepted = accepted_for c.args.kind checked sixteen }

pub hand_listing-requires : goal.hand_listing-requires
hand_listing-requires c = let s = c.as_slice.ensures in
    record { natural = subst Natural (sym (s.value ∙ c.of_kind-found.ensures)) (found_natural _ _ _); few = s.fits }

pub returns : goal.returns
unfolding pairs_refusal over_refusal
returns c =
    let eleven = ap not (sym c.scores_in_range.ensures ∙ c.if-not-scores_in_range.false) in
    let sixteen = sym c.has_wrong_unscored.ensures ∙ c.if-has_wrong_unscored.false in
    let twelve = sym c.are_wrong_distances.ensures ∙ c.if-are_wrong_distances.false in
    let (a, t) = handed_over refl (gives (first_no eleven (first_no sixteen (first_no twelve (record { is = refl })))))
    (handed c.args.kind c.args.list.now.n c.args.list.now.pairs.now _ (c.as_slice.ensures.value ∙ c.of_kind-found.ensures) c.args.list.now.fits.few c.hand_listing.ensures) in
    record { answered = a; written = t }
