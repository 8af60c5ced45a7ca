-- Whether two images say the same is whether they are equal.
use Rattle.std.proofs.Common.{◌≡◌, ℕ, false, ◌&&◌, eqb, Some, None, Decides, Option, refl, ap, arith}
use Rattle.header.specs.declared.kinds.Category.{Category}
use Rattle.header.proofs.Equal.{same_decides}
use Rattle.moment.specs.declared.times.Time.{Time}
use Rattle.moment.specs.declared.times.Time.TheVariants.{Now, At}
use Rattle.std.proofs.lemmas.Bool.Decides.{Decides-and, Decides-eqb, Decides-like}
use Rattle.slots.specs.Slides.{Image, same_time, same_category, same_image}

-- two that differ in their kind
apart : {P : Type 0} → (P → ◌≡◌ {A = ℕ} 0 1) → Decides false P
apart f =
    (λ h. let z : ◌≡◌ {A = ℕ} 0 1 = cc in absurd (omega arith), λ p. absurd (omega (arith, f p)))

-- two times that may be missing
pub same_time_decides : (a b : Option Time) → Decides (same_time a b) (a ≡ b)
same_time_decides None None = (λ _. refl, λ _. refl)
same_time_decides None (Some b) = apart (λ e. cc)
same_time_decides (Some a) None = apart (λ e. cc)
same_time_decides (Some Now) (Some Now) = (λ _. refl, λ _. refl)
same_time_decides (Some Now) (Some (At n)) = apart (λ e. cc)
same_time_decides (Some (At m)) (Some Now) = apart (λ e. cc)
same_time_decides (Some (At m)) (Some (At n)) =
    Decides-like (eqb m n) (ap (λ (k : ℕ). Some (At k))) (λ e. cc) (Decides-eqb m n)

-- two categories that may be missing
pub same_category_decides : (a b : Option Category) → Decides (same_category a b) (a ≡ b)
same_category_decides None None = (λ _. refl, λ _. refl)
same_category_decides None (Some b) = apart (λ e. cc)
same_category_decides (Some a) None = apart (λ e. cc)
same_category_decides (Some a) (Some b) =
    Decides-like (eqb a.category b.category && eqb a.slide b.slide)
    (λ e i. Some (record { category = e.0 i; slide = e.1 i }))
    (λ e.
    let z : a ≡ b = cc in
    (ap (λ (c : Category). c.category) z, ap (λ (c : Category). c.slide) z))
    (Decides-and _ _ (Decides-eqb a.category b.category) (Decides-eqb a.slide b.slide))

-- two images: value by value
pub same_image_decides : (a b : Image) → Decides (same_image a b) (a ≡ b)
same_image_decides a b =
    Decides-like (same_image a b) (λ e i. record {
      size = e.0 i;
      subtype = e.1.0 i;
      name = e.1.1.0 i;
      version = e.1.1.1.0 i;
      expire = e.1.1.1.1.0 i;
      trigger = e.1.1.1.1.1.0 i;
      category = e.1.1.1.1.1.1 i;
    }) (λ e. (
      ap (λ (x : Image). x.size) e,
      (
        ap (λ (x : Image). x.subtype) e,
        (
          ap (λ (x : Image). x.name) e,
          (
            ap (λ (x : Image). x.version) e,
            (
              ap (λ (x : Image). x.expire) e,
              (ap (λ (x : Image). x.trigger) e, ap (λ (x : Image). x.category) e),
            ),
          ),
        ),
      ),
    ))
    (Decides-and _ _ (Decides-eqb a.size b.size)
    (Decides-and _ _ (Decides-eqb a.subtype b.subtype)
    (Decides-and _ _ (same_decides a.name b.name)
    (Decides-and _ _ (Decides-eqb a.version b.version)
    (Decides-and _ _ (same_time_decides a.expire b.expire)
    (Decides-and _ _ (same_time_decides a.trigger b.trigger)
    (same_category_decides a.category b.category)))))))
