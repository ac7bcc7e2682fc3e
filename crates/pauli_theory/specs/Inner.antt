pub mod ModuloPlaces
pub mod CommonPlaces
pub mod WholePlaces
