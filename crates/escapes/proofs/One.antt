-- Two answers that say the same are the same. Assumes nothing.
use mathlib.Core.Path.{◌≡◌, ap, ap₂}
use Rattle.utf8.specs.declared.Cursor.{Cursor}
use Rattle.definition.specs.Escapes.{Fault, fault, Read, refused, Meaning}
use Rattle.escapes.specs.declared.Refusal.{Refusal}
use Rattle.escapes.specs.declared.Escaped.{Escaped}
use Rattle.escapes.specs.declared.Escaped.TheVariants.{Code, Kept, Gone, Refused}
use Rattle.escapes.specs.Answers.{says}

cursor_one : (k k' : Cursor) → k.at ≡ k'.at → k ≡ k'
cursor_one k k' e = λ i. record { at = e i }

refusal_one : (r r' : Refusal) → fault r.number r.at ≡ fault r'.number r'.at → r ≡ r'
refusal_one r r' e = λ i. record { number = (e i).number; at = (e i).taken }

pub says_one : (r r' : Escaped) → says r ≡ says r' → r ≡ r'
says_one (Code c k) (Code c' k') e = let s : c ≡ c' = cc in let t : k.at ≡ k'.at = cc in ap₂ Code s (cursor_one k k' t)
says_one (Code c k) (Kept k') e = cc
says_one (Code c k) (Gone k') e = cc
says_one (Code c k) (Refused r) e = cc
says_one (Kept k) (Code c k') e = cc
says_one (Kept k) (Kept k') e = let t : k.at ≡ k'.at = cc in ap Kept (cursor_one k k' t)
says_one (Kept k) (Gone k') e = cc
says_one (Kept k) (Refused r) e = cc
says_one (Gone k) (Code c k') e = cc
says_one (Gone k) (Kept k') e = cc
says_one (Gone k) (Gone k') e = let t : k.at ≡ k'.at = cc in ap Gone (cursor_one k k' t)
says_one (Gone k) (Refused r) e = cc
says_one (Refused r) (Code c k) e = cc
says_one (Refused r) (Kept k) e = cc
says_one (Refused r) (Gone k) e = cc
says_one (Refused r) (Refused r') e = ap Refused (refusal_one r r' (same _ _ e))
  where
    same : (x y : Fault) → ◌≡◌ {A = Read Meaning} (refused x) (refused y) → x ≡ y
    same x y q = cc
