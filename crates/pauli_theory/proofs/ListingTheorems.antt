-- What is proved of the listing.
use Rattle.pauli_theory.specs.ListingTheorems.{ListingLaws}
use Rattle.pauli_theory.proofs.ListingSubsets.{subsets_law}
use Rattle.pauli_theory.proofs.ListingBinomials.{binomial_law}
use Rattle.pauli_theory.proofs.ListingNumbers.{numbers_law}
use Rattle.pauli_theory.proofs.ListingOrder.{ordered_law}
use Rattle.pauli_theory.proofs.ListingPages.{page_law}
use Rattle.pauli_theory.proofs.ListingElements.{elements_law, listed_law}

pub listing_laws : ListingLaws
listing_laws = record {
  subsets_law = subsets_law;
  binomial_law = binomial_law;
  numbers_law = numbers_law;
  ordered_law = ordered_law;
  page_law = page_law;
  elements_law = elements_law;
  listed_law = listed_law;
}
