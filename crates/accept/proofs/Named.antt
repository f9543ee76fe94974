-- Line 1, name by name.
use mathlib.Core.Path.{◌≡◌, refl, sym, ap, ◌∙◌, subst}
use mathlib.Core.Bool.{true, false, not, ◌&&◌, ◌||◌}
use mathlib.Core.List.{List, [], ◌∷◌, ◌++◌}
use mathlib.Core.Logic.{◌⊎◌, inl, inr}
use Prim.Native.Nat.{ℕ, suc, ◌+◌, ◌*◌, ◌^◌, ◌≤◌, ◌<◌}
use native.Mathlib.Numerals.{add-one}
use native.Mathlib.Nat.{pow-suc, pow-le-pow_right}
use native.Mathlib.Omega.{arith}
use native.Mathlib.Decide.{ℕ_discrete}
use borrow.Author.Tests.{ne_eqb}
use lib.Dec.{T, eqb, leb, le→leb, leb→le, lit<, not_T, T_not}
use lib.ListN.{length, get_or, drop, length-append, length-drop, get_or-append}
use lib.Seq.{get_or-append_seam}
use Rattle.lists.specs.Lists.{all}
use Rattle.lists.proofs.Lists.{get_d_in, all_in, all_places, below_more}
use Rattle.lists.proofs.Tests.{T_true, true_T, T_false, and_T, T_and, or_T, eqb_yes}
use Rattle.interface.specs.Sheet.{is_upper, is_digit, is_name, cut, lines, names, entries, same_bytes, is_among, has_equal}
use Rattle.interface.specs.Refusals.{wrong_names, equal_names}
use Rattle.interface.specs.Calls.{piece_at}
use Rattle.interface.proofs.Pieces.{some_piece, all_append, all_free, same_bytes_lem}
use Rattle.sheet.proofs.Lines.{pieces_from}
use Rattle.accept.specs.Places.{part}
use Rattle.text.specs.Reading.{is_name_byte}
use Rattle.accept.specs.Names.{packed, NameRun, LineRead}
use Rattle.accept.proofs.Parts.{part_length, part_more, part_first}
use Rattle.accept.proofs.Cursors.{Line, TextAt, text_space, line_space, text_feed, line_feed_lem, line_start}

pub name_byte_small : (b : ℕ) → T (is_name_byte b) → b < 256
unfolding is_upper is_digit
name_byte_small b t = go (or_T (is_upper b) (is_digit b) t)
  where
    go : T (leb 65 b && leb b 90) ⊎ T (leb 48 b && leb b 57) → b < 256
    go (inl u) = omega (arith, leb→le b 90 (and_T (leb 65 b) (leb b 90) u).1)
    go (inr d) = omega (arith, leb→le b 57 (and_T (leb 48 b) (leb b 57) d).1)

packed_more : (v : ℕ) (w : List ℕ) (b : ℕ) → packed v (w ++ (b ∷ [])) ≡ packed v w * 256 + b
unfolding packed
packed_more v [] b = refl
packed_more v (x ∷ w) b = packed_more (v * 256 + x) w b

packed_small : (k v : ℕ) (w : List ℕ) → v < 256 ^ k → T (all is_name_byte w) → packed v w < 256 ^ (k + length w)
unfolding packed all
packed_small k v [] p e = let z : k + 0 ≡ k = omega arith in rw z p
packed_small k v (b ∷ w) p e =
    let (d, r) = and_T (is_name_byte b) (all is_name_byte w) e in
    let q = name_byte_small b d in
    let step : v * 256 + b < 256 ^ (k + 1) = rw (add-one k, pow-suc) (omega arith) in
    let z : k + suc (length w) ≡ k + 1 + length w = omega arith in
    rw z (packed_small (k + 1) (v * 256 + b) w step r)

pub name_none : (s : List ℕ) (p : ℕ) → p ≤ length s → NameRun s p 0 0
unfolding all packed
name_none s p h = record { few = omega arith; inside = omega arith; bytes = tt; number = refl }

module _ {s : List ℕ} {p v k : ℕ} (r : NameRun s p v k) where
  pub name_small : k < 8 → v < 72057594037927936
  name_small h =
      let n : length (part s p k) ≡ k = part_length s p k r.inside in
      let small = packed_small 0 0 (part s p k) (lit< tt) r.bytes in
      let seven : 0 + length (part s p k) ≤ 7 = omega (arith, n) in
      let bound : 256 ^ (0 + length (part s p k)) ≤ 256 ^ 7 = pow-le-pow_right (lit< tt) seven in
      omega (arith, r.number, small, bound)

  pub name_more : k < 8 → p + k < length s → T (is_name_byte (get_or s (p + k) 0)) → NameRun s p (v * 256 + get_or s (p + k) 0) (k + 1)
  unfolding all
  name_more few h d =
      let b = get_or s (p + k) 0 in
      let more = part_more s p k h in
      record {
        few = omega arith;
        inside = omega arith;
        bytes = subst (λ (l : List ℕ). T (all is_name_byte l)) (sym more) (all_append is_name_byte (part s p k) (b ∷ []) r.bytes (T_and (is_name_byte b) true d tt));
        number = ap (λ (x : ℕ). x * 256 + b) r.number ∙ sym (packed_more 0 (part s p k) b) ∙ sym (ap (packed 0) more);
      }

  -- it is a name
  name_good : 0 < k → is_upper (get_or s p 0) ≡ true → T (is_name (part s p k))
  unfolding is_name all
  name_good o u = go (part s p k) (part_length s p k r.inside) (sym (part_first s p k o)) r.bytes
    where
      go : (w : List ℕ) → length w ≡ k → get_or s p 0 ≡ get_or w 0 0 → T (all is_name_byte w) → T (is_name w)
      go [] n e t = absurd (omega arith)
      go (b ∷ w) n e t =
          let rest = (and_T (is_name_byte b) (all is_name_byte w) t).1 in
          T_and (is_upper b && all (λ c. is_upper c || is_digit c) w) (leb (length w) 7)
          (T_and (is_upper b) (all (λ c. is_upper c || is_digit c) w) (true_T (sym (ap is_upper e) ∙ u)) rest)
          (le→leb (length w) 7 (omega (arith, r.few)))

  name_text : {stop : ℕ} → p + k < length s → get_or s (p + k) 0 ≡ stop → TextAt s p stop k
  unfolding is_upper is_digit
  name_text h e = record {
    inside = h;
    ended = e;
    no_space = all_free is_name_byte 32 tt (part s p k) r.bytes;
    no_feed = all_free is_name_byte 10 tt (part s p k) r.bytes;
  }

abbrev name : List ℕ → ℕ → List ℕ
name s a = get_or (names s) a []

-- the names before place at are good, different, and known by their numbers
pub record NamesState (s known : List ℕ) (at : ℕ) : Type 0 where
  pub here : Line s (names s) (drop 1 (lines s)) (length known) at
  pub good : (a : ℕ) → a < length known → T (is_name (name s a))
  pub number : (a : ℕ) → a < length known → get_or known a 0 ≡ packed 0 (name s a)
  pub different : (a b : ℕ) → a < b → b < length known → name s a ≡ name s b → ⊥

pub names_start : (s : List ℕ) → NamesState s [] 0
unfolding lines names piece_at
names_start s = record {
  here = record { inside = omega arith; line = pieces_from 10 s 0; pieces = refl };
  good = λ a h. absurd (omega arith);
  number = λ a h. absurd (omega arith);
  different = λ a b h k. absurd (omega arith);
}

-- one more name
module _ {s known : List ℕ} {at v k : ℕ} (n : NamesState s known at) (r : NameRun s at v k) (o : 0 < k) (u : is_upper (get_or s at 0) ≡ true)
    (new : T (all (λ x. not (eqb x v)) known)) (is : name s (length known) ≡ part s at k) where
  good_more : (a : ℕ) → a < length known + 1 → T (is_name (name s a))
  good_more = below_more {P = λ a. T (is_name (name s a))} n.good (subst (λ (w : List ℕ). T (is_name w)) (sym is) (name_good r o u))

  apart : (a : ℕ) → a < length known → name s a ≡ name s (length known) → ⊥
  apart a h e = T_not (eqb (get_or known a 0) v) (all_in (λ x. not (eqb x v)) known new (get_d_in known a 0 h))
      (eqb_yes (get_or known a 0) v (n.number a h ∙ ap (packed 0) (e ∙ is) ∙ sym r.number))

  different_more : (a b : ℕ) → a < b → b < length known + 1 → name s a ≡ name s b → ⊥
  different_more a b h k = go (ℕ_discrete b (length known))
    where
      go : Dec (b ≡ length known) → name s a ≡ name s b → ⊥
      go (yes e) q = apart a (omega arith) (q ∙ ap (name s) e)
      go (no f) q = n.different a b h (omega arith) q

  number_more : (a : ℕ) → a < length known + 1 → get_or (known ++ (v ∷ [])) a 0 ≡ packed 0 (name s a)
  number_more = below_more {P = λ a. get_or (known ++ (v ∷ [])) a 0 ≡ packed 0 (name s a)}
      (λ a h. get_or-append known (v ∷ []) 0 a h ∙ n.number a h)
      (get_or-append_seam known v [] 0 ∙ r.number ∙ sym (ap (packed 0) is))

-- no two are equal
among_none : (w : List ℕ) (l : List (List ℕ)) → ((b : ℕ) → b < length l → w ≡ get_or l b [] → ⊥) → is_among w l ≡ false
unfolding is_among
among_none w [] f = refl
among_none w (x ∷ l) f =
    let e : same_bytes w x ≡ false = T_false {b = same_bytes w x} (not_T (same_bytes w x) (λ t. f 0 (omega arith) (same_bytes_lem w x t))) in
    rw e (among_none w l (λ b h. f (suc b) (omega arith)))

equal_none : (l : List (List ℕ)) → ((a b : ℕ) → a < b → b < length l → get_or l a [] ≡ get_or l b [] → ⊥) → has_equal l ≡ false
unfolding has_equal
equal_none [] f = refl
equal_none (w ∷ l) f = rw (among_none w l (λ b h. f 0 (suc b) (omega arith) (omega arith))) (equal_none l (λ a b h k. f (suc a) (suc b) (omega arith) (omega arith)))

module _ {s known : List ℕ} {at v k : ℕ} (n : NamesState s known at) (r : NameRun s at v k) (h : at + k < length s) (o : 0 < k) (u : is_upper (get_or s at 0) ≡ true)
    (new : T (all (λ x. not (eqb x v)) known)) where
  pub names_next : get_or s (at + k) 0 ≡ 32 → NamesState s (known ++ (v ∷ [])) (at + k + 1)
  names_next e =
      let t = name_text r h e in
      let is = text_space n.here t in
      let long : length (known ++ (v ∷ [])) ≡ length known + 1 = length-append known (v ∷ []) in
      record {
        here = rw long (line_space n.here t);
        good = rw long (good_more n r o u new is);
        number = rw long (number_more n r o u new is);
        different = rw long (different_more n r o u new is);
      }

  pub names_end : get_or s (at + k) 0 ≡ 10 → length known < 32 → LineRead s (length known + 1) (at + k + 1)
  unfolding wrong_names equal_names entries lines
  names_end e few =
      let t = name_text r h e in
      let is = text_feed n.here t in
      let (long, inside, next) = line_feed_lem n.here t in
      let two : (length (cut 10 s) ≡ 1 → ⊥) = λ q. omega (arith, q, ap length next, length-drop 1 (cut 10 s), some_piece 10 (drop (at + k + 1) s)) in
      record {
        good = rw (ne_eqb (length (cut 10 s)) 1 two, T_true {b = all is_name (names s)} (all_places is_name (names s) [] (λ a q. good_more n r o u new is a (omega (arith, long)))));
        different = equal_none (names s) (λ a b p q. different_more n r o u new is a b p (omega (arith, long)));
        number = sym long;
        some = omega arith;
        few = omega arith;
        place = line_start s 0 (at + k + 1) inside next;
        behind = omega arith;
      }
