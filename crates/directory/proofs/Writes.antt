-- Entries written one behind the other, and zeros past them.
-- Assumes nothing.
use Prim.Native.Nat.{ℕ, suc, ◌+◌, ◌≤◌, ◌<◌}
use native.Mathlib.Omega.{arith}
use mathlib.Core.Path.{◌≡◌, refl, sym, ap, ◌∙◌, subst}
use mathlib.Core.List.{List, [], ◌∷◌, ◌++◌, map, map-append}
use lib.ListN.{length, get_or, take, set, length-append, length-map, length-set}
use lib.Seq.{length-take-le, take-suc-set, take_all}
use Rattle.std.proofs.lemmas.List.{take_more}
use Rattle.basics.specs.Lists.{over}
use Rattle.table.specs.Posts.{cleared}
use Rattle.table.proofs.Cleared.{cleared-over}
use Rattle.directory.specs.declared.Entry.{Entry}
use Rattle.directory.specs.Entries.{key_of, first_of, count_of}
use Rattle.directory.specs.Directory.{Directory, directory, zeros, file}
use Rattle.directory.specs.Posts.{PlaceRoom, Fronted, Written, pushed, cut_off}

-- ---- one list

module _ {old after : List ℕ} where
  front_more : {new : List ℕ} (n v : ℕ) → length new ≡ n → n < length old → Fronted new old after → Fronted (new ++ v ∷ []) old (set after n v)
  front_more {new} n v e h f =
      let m : length (new ++ v ∷ []) ≡ suc n = omega (arith, length-append new (v ∷ [])) in
      let k : n < length after = omega (arith, f.long) in
      record {
        front = ap (λ (l : List ℕ). l ++ v ∷ []) (f.front ∙ ap (λ (i : ℕ). take i after) e) ∙ sym (ap (λ (i : ℕ). take i (set after n v)) m ∙ take-suc-set after n v k);
        long = length-set after n v ∙ f.long;
      }

  front-cleared : {new : List ℕ} {n : ℕ} → n ≡ length new → Fronted new old after → cleared 0 n after ≡ over new (zeros old)
  front-cleared {new} e f = ap (λ (m : ℕ). cleared 0 m after) e ∙ cleared-over 0 new after old f.front f.long

-- ---- the first n of some entries are written

module _ (es : List Entry) (d : Directory) where
  pub written-none : Written (take 0 es) d (directory d.keys d.firsts d.counts 0)
  written-none = record { count = refl; keys = record { front = refl; long = refl }; firsts = record { front = refl; long = refl }; counts = record { front = refl; long = refl } }

  module _ (room : PlaceRoom d (length es)) {n : ℕ} {now : Directory} (w : Written (take n es) d now) where
    module _ (h : n < length es) where
      used-is : now.used ≡ n
      used-is = w.count ∙ length-take-le n es (omega arith)

      pub push-room : PlaceRoom now (now.used + 1)
      push-room = (omega (arith, used-is, w.keys.long, room.0), (omega (arith, used-is, w.firsts.long, room.1.0), (omega (arith, used-is, w.counts.long, room.1.1.0), tt)))

      -- and the next
      module _ {e : Entry} (g : e ≡ get_or es n e) where
        next-is : take (n + 1) es ≡ take n es ++ e ∷ []
        next-is = take_more es n e h ∙ ap (λ (x : Entry). take n es ++ x ∷ []) (sym g)

        one_list : (f : Entry → ℕ) (old list : List ℕ) → length es ≤ length old → Fronted (map f (take n es)) old list → Fronted (map f (take (n + 1) es)) old (set list now.used (f e))
        one_list f old list k p =
            let m : map f (take (n + 1) es) ≡ map f (take n es) ++ f e ∷ [] = ap (map f) next-is ∙ map-append f (take n es) (e ∷ []) in
            let c : length (map f (take n es)) ≡ now.used = length-map (take n es) f ∙ sym w.count in
            subst (λ (l : List ℕ). Fronted l old (set list now.used (f e))) (sym m) (front_more now.used (f e) c (omega (arith, used-is)) p)

        pub written-more : Written (take (n + 1) es) d (pushed e now)
        written-more = record {
          count = let m : length (take (n + 1) es) ≡ n + 1 = length-take-le (n + 1) es (omega arith) in omega (arith, used-is);
          keys = one_list key_of d.keys now.keys room.0 w.keys;
          firsts = one_list first_of d.firsts now.firsts room.1.0 w.firsts;
          counts = one_list count_of d.counts now.counts room.1.1.0 w.counts;
        }

    pub written-all : length es ≤ n → Written es d now
    written-all h = subst (λ (l : List Entry). Written l d now) (take_all n es h) w

-- ---- zeros past them

pub written-room : (es : List Entry) (d after : Directory) → PlaceRoom d (length es) → Written es d after → PlaceRoom after after.used
written-room es d after room w =
    (omega (arith, w.count, w.keys.long, room.0), (omega (arith, w.count, w.firsts.long, room.1.0), (omega (arith, w.count, w.counts.long, room.1.1.0), tt)))

pub written-cut : (es : List Entry) (d after : Directory) → Written es d after → cut_off after.used after ≡ file es d
unfolding file
written-cut es d after w =
    let n : (g : Entry → ℕ) → after.used ≡ length (map g es) = λ g. w.count ∙ sym (length-map es g) in
    λ i. record {
      keys = front-cleared (n key_of) w.keys i;
      firsts = front-cleared (n first_of) w.firsts i;
      counts = front-cleared (n count_of) w.counts i;
      used = w.count i;
    }
