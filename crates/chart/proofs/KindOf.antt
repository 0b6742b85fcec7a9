-- The kind of an edge's operation: what is made of it is made by its code. Assumes nothing.
use Rattle.semantics.proofs.Prelude.{◌≡◌, refl, Bool, true, false, ℕ, eqb, eqb-true}
use Rattle.semantics.specs.Lists.{pick}
use Rattle.semantics.specs.Layout.{skip_code, set_code, add_code, sub_code, in_code, eq_code, ne_code, lt_code, le_code, gt_code}
use Rattle.semantics.specs.declared.Arithmetic.TheVariants.{Add, Sub}
use Rattle.semantics.specs.declared.Relation.{Relation}
use Rattle.semantics.specs.declared.Relation.TheVariants.{Eq, Ne, Lt, Le, Gt, Ge}
use Rattle.chart.specs.declared.Kind.{Kind}
use Rattle.chart.specs.declared.Kind.TheVariants.{Skip, Set, Compute, In, If}
use Rattle.chart.specs.Kinds.{relation_of, kind_of}

of_pick : {A B : Type 0} (f : A → B) (t : Bool) {x y : A} {a b : B} → f x ≡ a → f y ≡ b → f (pick t x y) ≡ pick t a b
of_pick f true p q = p
of_pick f false p q = q

-- f of the relation of a code
pub by_relations : {A : Type 0} (f : Relation → A) (n : ℕ) → f (relation_of n) ≡ pick (eqb n eq_code) (f Eq) (pick (eqb n ne_code) (f Ne) (pick (eqb n lt_code) (f Lt) (pick (eqb n le_code) (f Le) (pick (eqb n gt_code) (f Gt) (f Ge)))))
unfolding relation_of
by_relations f n = of_pick f (eqb n eq_code) refl (of_pick f (eqb n ne_code) refl (of_pick f (eqb n lt_code) refl (of_pick f (eqb n le_code) refl (of_pick f (eqb n gt_code) refl refl))))

-- f of the kind of a code
pub by_kinds : {A : Type 0} (f : Kind → A) (n : ℕ) → f (kind_of n) ≡ pick (eqb n skip_code) (f Skip) (pick (eqb n set_code) (f Set) (pick (eqb n add_code) (f (Compute Add)) (pick (eqb n sub_code) (f (Compute Sub)) (pick (eqb n in_code) (f In) (f (If (relation_of n)))))))
unfolding kind_of
by_kinds f n = of_pick f (eqb n skip_code) refl (of_pick f (eqb n set_code) refl (of_pick f (eqb n add_code) refl (of_pick f (eqb n sub_code) refl (of_pick f (eqb n in_code) refl refl))))

-- an input is of the code of inputs alone
pub code_of_in : (n : ℕ) → n ≡ in_code → kind_of n ≡ In
unfolding kind_of
code_of_in n e = rw e

pub in_of_code : (n : ℕ) → kind_of n ≡ In → n ≡ in_code
unfolding kind_of
in_of_code n e = go (eqb n skip_code) (eqb n set_code) (eqb n add_code) (eqb n sub_code) (eqb n in_code) refl e where
  go : (a b c d t : Bool) → eqb n in_code ≡ t → pick a Skip (pick b Set (pick c (Compute Add) (pick d (Compute Sub) (pick t In (If (relation_of n)))))) ≡ In → n ≡ in_code
  go true b c d t q e = cc
  go false true c d t q e = cc
  go false false true d t q e = cc
  go false false false true t q e = cc
  go false false false false true q e = eqb-true n in_code q
  go false false false false false q e = cc
