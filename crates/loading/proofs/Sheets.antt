-- The sheet of two records, by the tests of its bytes.
-- Assumes nothing.
use Prim.Native.Nat.{ℕ, ◌/◌}
use native.Mathlib.Omega.{arith}
use mathlib.Core.Path.{◌≡◌, sym, ap, ◌∙◌}
use mathlib.Core.Bool.{true, false}
use mathlib.Core.Option.{Option, none, some}
use mathlib.Core.List.{List, [], ◌∷◌}
use lib.ListN.{length, get_or, take, drop}
use borrow.Author.Tests.{eq-eqb, ne_eqb}
use Rattle.basics.specs.Refusals.{Answer, refused, success, fault}
use Rattle.geometry.specs.Position.{dimension}
use Rattle.std.specs.Prelude.{Some, None}
use Rattle.std.specs.Simd.{first_chunks}
use Rattle.grid_search.specs.declared.GridSearch.{GridSearch}
use Rattle.grid_search.specs.Sheet.{new_sheet, sheet_ok}
use Rattle.grid_search.proofs.Remade.{made-good}
use Rattle.records.specs.declared.Record.{Record}
use Rattle.records.specs.Records.{record_at}
use Rattle.records.proofs.Laws.{cut_out}
use Rattle.loading.specs.Loading.{place_of, file_tests, unless, sheet_of_records, sheet_in}

module _ (bytes : List ℕ) where
  -- the records of its halves
  pub in_halves : (halves : List (List ℕ)) → length bytes ≡ 64 → halves ≡ first_chunks 32 (length bytes / 32) bytes
      → (record_at (get_or halves 0 []) 0 ≡ record_at bytes 0) × (record_at (get_or halves 1 []) 0 ≡ record_at bytes 32)
  in_halves halves e h =
      let two : halves ≡ take 32 bytes ∷ take 32 (drop 32 bytes) ∷ [] = h ∙ ap (λ (k : ℕ). first_chunks 32 (k / 32) bytes) e in (
        ap (λ (p : List (List ℕ)). record_at (get_or p 0 []) 0) two ∙ cut_out bytes 0,
        ap (λ (p : List (List ℕ)). record_at (get_or p 1 []) 0) two ∙ cut_out bytes 32,
      )

  pub not-two : (length bytes ≡ 64 → ⊥) → refused 13 ≡ sheet_of_records bytes
  unfolding sheet_of_records file_tests fault unless
  not-two h = rw (ne_eqb (length bytes) 64 h)

  module _ (e : length bytes ≡ 64) (low high : Record) (first : low ≡ record_at bytes 0) (second : high ≡ record_at bytes 32) where
    pub no_dimension : dimension low.id ≡ false → refused 1 ≡ sheet_of_records bytes
    unfolding sheet_of_records file_tests fault unless
    no_dimension d = rw (sym first, eq-eqb (length bytes) 64 e, d)

    pub from_records : dimension low.id ≡ true
        → new_sheet (place_of low.id low) (place_of low.id high) (Some high.id) None None ≡ sheet_of_records bytes
    unfolding sheet_of_records file_tests fault unless
    from_records d = rw (sym first, sym second, eq-eqb (length bytes) 64 e, d)

-- ---- a sheet that was not refused

made-success : {A : Type 0} (o : Option ℕ) (a : Answer A) (s : A) → unless o a ≡ success s → a ≡ success s
unfolding unless
made-success none a s e = e
made-success (some n) a s e = absurd (let z : ◌≡◌ {A = ℕ} 0 1 = cc in omega arith)

pub sheet-good : (file : Option (List ℕ)) (s : GridSearch) → sheet_in file ≡ success s → sheet_ok s ≡ true
unfolding sheet_in sheet_of_records
sheet-good none s e = absurd (let z : ◌≡◌ {A = ℕ} 0 1 = cc in omega arith)
sheet-good (some bytes) s e =
    let low = record_at bytes 0 in
    let high = record_at bytes 32 in
    let new = new_sheet (place_of low.id low) (place_of low.id high) (Some high.id) None None in
    made-good (place_of low.id low) (place_of low.id high) (Some high.id) None None s (made-success (fault (file_tests bytes)) new s e)
