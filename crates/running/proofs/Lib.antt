-- Demand 3 of what is answered in place, and the same deliveries in another order.
pub mod Fed
pub mod Reordered
